use Rattle.std.proofs.Common.{◌∷◌, [], ◌++◌, ◌-◌, length, ap, sym, subst, ◌∙◌, arith}
use Rattle.psg_explain.specs.declared.stages.Site.TheVariants as sites
use Rattle.psg_explain.specs.declared.stages.Source.TheVariants as sources
use Rattle.psg_explain.specs.Added.{AddsPair, HasStage, stage_of}
use Rattle.psg_explain.proofs.StepLaws.{cell_last, has_stays, pair_kept, pair_last, some_stages}
use Rattle.psg_explain.proofs.adding.add_cell.Goals as goal

pub overflow_sub-rest : goal.overflow_sub-rest
overflow_sub-rest c =
    let some = some_stages c.args.stages.now.items c.requires.last in
    let same = ap length c.as_slice-all.ensures.value in
    omega (arith, some, same)

pub add_child-requires-clause-last : goal.add_child-requires-clause-last
add_child-requires-clause-last c = cell_last _ _ _ _ _ _ c.in_ok-header.ensures c.in_ok-add.ensures

pub add_child-requires-clause-child : goal.add_child-requires-clause-child
add_child-requires-clause-child c = has_stays _ _ _ c.args.element c.in_ok-add.ensures c.requires.element

pub add_child-requires-2-clause-last : goal.add_child-requires-2-clause-last
add_child-requires-2-clause-last c = pair_last _ _ _ _ _ _ _ c.in_ok-add_child.ensures

pub add_child-requires-2-clause-child : goal.add_child-requires-2-clause-child
add_child-requires-2-clause-child c =
    subst (λ l. HasStage c.add_child.new.stages.items (length l - 1)) (sym c.as_slice-all.ensures.value)
    (pair_kept _ _ _ _ _ _ _ _ c.in_ok-add_child.ensures (has_stays _ _ _ _ c.in_ok-add.ensures c.requires.last))

pub returns : goal.returns
returns c = record {
  one = c.add.new.stages.items;
  two = c.add_child.new.stages.items;
  own = c.in_ok-add.ensures ∙ ap (λ h. c.args.stages.now.items ++ stage_of c.args.place.path.now c.args.place.cell 0 (sites.Cell c.args.list) (record { header = h; source = sources.Own }) ∷ []) c.in_ok-header.ensures;
  first = c.in_ok-add_child.ensures;
  second = subst (λ l. AddsPair c.args.place.path.now c.args.place.cell (sites.Cell c.args.list) 2 c.add_child.new.stages.items c.add_child-2.new.stages.items (length l - 1)) c.as_slice-all.ensures.value c.in_ok-add_child-2.ensures;
}
