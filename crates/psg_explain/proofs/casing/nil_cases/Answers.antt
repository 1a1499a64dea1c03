use Rattle.std.proofs.Common.{◌∷◌, [], map, slice_get, ap, sym, ◌∙◌}
use Rattle.psg_terms.proofs.Lists.{got_none, got_some}
use Rattle.psg_explain.specs.Given.{nil_rows_of, plain_cases}
use Rattle.psg_explain.proofs.casing.nil_cases.Goals as goal

pub returns-in_ok-cases-in-Some : goal.returns-in_ok-cases-in-Some
returns-in_ok-cases-in-Some c =
    let there = ap (λ xs. slice_get xs c.args.list) (sym c.as_slice.ensures) ∙ got_some c.as_slice.result.now c.args.list c.get.result c.in-Some.kind c.get.ensures.lookup c.in-Some.is in
    c.in_ok-cases-in-Some.ensures ∙ ap (plain_cases 0) (c.as_slice-in-Some-2.ensures.value ∙ c.in_ok-rows-in-Some.ensures ∙ ap (map (λ t. t ∷ [])) c.as_slice-in-Some.ensures ∙ sym (ap nil_rows_of there))

pub returns-in-None : goal.returns-in-None
returns-in-None c =
    c.new.ensures.items
    ∙ sym (ap (λ o. plain_cases 0 (nil_rows_of o)) (ap (λ xs. slice_get xs c.args.list) (sym c.as_slice.ensures) ∙ got_none c.as_slice.result.now c.args.list c.get.result c.get.ensures.lookup c.in-None.is))
