use Rattle.std.proofs.Common.{List, ◌∷◌, [], ◌++◌, length, ◌-◌, sym, subst, ap, ◌∙◌, arith}
use Rattle.psg_explain.specs.declared.stages.Stage.{Stage}
use Rattle.psg_explain.specs.Added.{HasStage, IsClosedContent, stage_of}
use Rattle.psg_explain.proofs.StepLaws.{some_stages}
use Rattle.psg_explain.proofs.adding.add_closing.Goals as goal

pub overflow_sub-before : goal.overflow_sub-before
overflow_sub-before c =
    let some = some_stages c.args.stages.now.items c.requires in
    let same = ap length c.as_slice-all.ensures.value in
    omega (arith, some, same)

pub closed_content-requires : goal.closed_content-requires
closed_content-requires c = subst (λ (l : List Stage). HasStage l (length l - 1)) (sym c.as_slice-all.ensures.value) c.requires

pub returns : goal.returns
returns c = (
  c.in_ok-content.content,
  subst (λ (l : List Stage). IsClosedContent l (length l - 1) c.in_ok-content.content) c.as_slice-all.ensures.value c.in_ok-content.ensures,
  c.in_ok-add.ensures ∙ ap (λ s. c.args.stages.now.items ++ stage_of c.args.place.path.now c.args.place.cell c.args.step s c.in_ok-content.content ∷ []) c.in_ok-site.ensures,
)
