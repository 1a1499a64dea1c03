use Rattle.std.proofs.Common.{ap, sym, slice_get, ◌∙◌}
use Rattle.psg_terms.proofs.Lists.{got_none, got_some}
use Rattle.psg_places.specs.Places.{declares_by}
use Rattle.psg_places.proofs.SpaceLaws.{operator_declares}
use Rattle.psg_keymap.proofs.acts.declares.Goals as goal

pub returns-in-Some : goal.returns-in-Some
returns-in-Some c =
    let at = ap (λ xs. slice_get xs c.args.op) (sym c.as_slice.ensures)
    ∙ got_some c.as_slice.result.now c.args.op c.get.result c.in-Some.operator c.get.ensures.lookup c.in-Some.is in
    c.has_spaces.ensures
    ∙ operator_declares c.args.definition.now c.requires.sound c.args.spaces.now c.requires.spaces c.args.op
    c.in-Some.operator.now at

pub returns-in-None : goal.returns-in-None
returns-in-None c =
    let at = ap (λ xs. slice_get xs c.args.op) (sym c.as_slice.ensures)
    ∙ got_none c.as_slice.result.now c.args.op c.get.result c.get.ensures.lookup c.in-None.is in
    sym (ap (declares_by c.args.definition.now) at)
