use Rattle.std.proofs.Common.{ap, sym, ◌∙◌, slice_get}
use Rattle.psg_terms.proofs.Lists.{got_some, got_none}
use Rattle.psg_grammar.specs.Lookups.{items_of}
use Rattle.psg_specimen.specs.Its.{part_spots, spots_of}
use Rattle.psg_specimen.proofs.ItLaws.{spots_of_parts}
use Rattle.psg_specimen.proofs.its.spots.Goals as goal

pub returns-in_ok-found-in-Some : goal.returns-in_ok-found-in-Some
returns-in_ok-found-in-Some c =
    let at = ap (λ l. slice_get l c.args.op) (sym c.as_slice.ensures) ∙ got_some c.as_slice.result.now c.args.op c.get.result c.in-Some.operator c.get.ensures.lookup c.in-Some.is in
    c.in_ok-found-in-Some.ensures ∙ ap part_spots c.as_slice-in-Some.ensures ∙ spots_of_parts c.in-Some.operator.now.items ∙ sym (ap (λ o. spots_of (items_of o)) at)

pub returns-in-None : goal.returns-in-None
returns-in-None c =
    let at = ap (λ l. slice_get l c.args.op) (sym c.as_slice.ensures) ∙ got_none c.as_slice.result.now c.args.op c.get.result c.get.ensures.lookup c.in-None.is in
    c.new.ensures.items ∙ sym (ap (λ o. spots_of (items_of o)) at)
