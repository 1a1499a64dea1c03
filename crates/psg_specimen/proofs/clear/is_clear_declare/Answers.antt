use Rattle.std.proofs.Common.{ap, sym, ◌∙◌, refl, slice_get}
use Rattle.psg_terms.proofs.Lists.{got_some, got_none}
use Rattle.psg_specimen.proofs.ClearLaws.{of_list, of_no_list}
use Rattle.psg_specimen.proofs.clear.is_clear_declare.Goals as goal

pub returns-in_ok-found-in-Some : goal.returns-in_ok-found-in-Some
returns-in_ok-found-in-Some c =
    let n = c.args.row.now.list in
    let at = ap (λ l. slice_get l n) (sym c.as_slice.ensures) ∙ got_some c.as_slice.result.now n c.get.result c.in-Some.list c.get.ensures.lookup c.in-Some.is in
    let both = of_list c.args.definition.now c.args.row.now c.in-Some.list.now at in
    (λ h. both.0 (c.in_ok-found-in-Some.ensures.0 h), λ h. c.in_ok-found-in-Some.ensures.1 (both.1 h))

pub returns-in-None : goal.returns-in-None
returns-in-None c =
    let n = c.args.row.now.list in
    let at = ap (λ l. slice_get l n) (sym c.as_slice.ensures) ∙ got_none c.as_slice.result.now n c.get.result c.get.ensures.lookup c.in-None.is in
    (λ h. of_no_list c.args.definition.now c.args.row.now at, λ h. refl)
