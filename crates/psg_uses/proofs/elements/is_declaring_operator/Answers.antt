use Rattle.std.proofs.Common.{ap, sym, slice_get, ◌∙◌}
use Rattle.psg_terms.proofs.Lists.{got_none, got_some}
use Rattle.psg_places.specs.Places.{declares_by}
use Rattle.psg_uses.proofs.elements.is_declaring_operator.Goals as goal

pub returns-in-Some : goal.returns-in-Some
returns-in-Some c =
    let def = c.args.known.definition.now in
    c.declares.ensures
    ∙ ap (declares_by def) (sym (ap (λ xs. slice_get xs c.args.op) (sym c.as_slice.ensures)
    ∙ got_some c.as_slice.result.now c.args.op c.get.result c.in-Some.operator c.get.ensures.lookup c.in-Some.is))

pub returns-in-None : goal.returns-in-None
returns-in-None c =
    sym (ap (declares_by c.args.known.definition.now) (ap (λ xs. slice_get xs c.args.op) (sym c.as_slice.ensures)
    ∙ got_none c.as_slice.result.now c.args.op c.get.result c.get.ensures.lookup c.in-None.is))
