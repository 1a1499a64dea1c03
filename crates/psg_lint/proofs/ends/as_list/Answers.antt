use Rattle.std.proofs.Common.{ap, length, refl, slice_get, sym, ◌∙◌}
use Rattle.psg_terms.proofs.Lists.{got_none, got_some}
use Rattle.psg_lint.proofs.EndLaws.{hole_no_list, list_known, no_kind, operator_no_list}
use Rattle.psg_lint.proofs.ends.as_list.Goals as goal

pub returns-in-Some-clause-some : goal.returns-in-Some-clause-some
returns-in-Some-clause-some c =
    list_known c.args.judged.definition.now c.args.tree.now _ c.in-List.list c.in-List.elements c.in-List.unfinished c.in-Some.kind.now _
    c.shape.ensures c.in-List.is
    (ap (λ xs. slice_get xs c.in-List.list) (sym c.as_slice.ensures)
    ∙ got_some c.as_slice.result.now c.in-List.list c.get.result c.in-Some.kind c.get.ensures.lookup c.in-Some.is)
    (ap length c.as_slice-in-Some.ensures) refl refl

pub unreachable-requires : goal.unreachable-requires
unreachable-requires c =
    no_kind c.args.judged.definition.now c.args.tree.now _ c.in-List.list c.in-List.elements c.in-List.unfinished c.requires.formed c.shape.ensures
    c.in-List.is
    (ap (λ xs. slice_get xs c.in-List.list) (sym c.as_slice.ensures)
    ∙ got_none c.as_slice.result.now c.in-List.list c.get.result c.get.ensures.lookup c.in-None.is)

pub returns-in-Op-clause-none : goal.returns-in-Op-clause-none
returns-in-Op-clause-none c = λ e. operator_no_list c.args.tree.now _ _ _ c.shape.ensures c.in-Op.is

pub returns-in-Hole-clause-none : goal.returns-in-Hole-clause-none
returns-in-Hole-clause-none c = λ e. hole_no_list c.args.tree.now _ _ c.shape.ensures c.in-Hole.is
