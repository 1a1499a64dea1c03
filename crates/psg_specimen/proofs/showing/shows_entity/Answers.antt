use Rattle.std.proofs.Common.{◌≡◌, length, ap, ap₂, ◌+◌, ◌++◌, ◌∷◌, [], ◌∙◌, arith}
use Rattle.psg_eval.specs.Walks.{run}
use Rattle.psg_specimen.specs.Shown.{value_terms}
use Rattle.psg_specimen.proofs.CaseShown.{columns_same, terms_many}
use Rattle.psg_specimen.proofs.showing.shows_entity.Goals as goal

pub returns : goal.returns
returns c =
    let value = c.args.row.now.value in
    let places = c.args.places.now in
    let items = ap length c.in_ok-terms.ensures ∙ terms_many value places in
    let one : c.len.result ≡ length places + 1 = omega (arith, c.len.ensures, c.in_ok-terms.terms.ok.0, items) in
    let two : c.len-2.result ≡ length places + 1 = omega (arith, c.len-2.ensures, c.in_ok-terms.terms.ok.0, items) in
    let keep = c.as_slice-2.ensures.value ∙ c.in_ok-push.ensures.items ∙ ap₂ (λ xs k. xs ++ k ∷ []) (c.in_ok-keep.ensures ∙ ap (run 0) one) (ap (λ n. n + c.args.place) two) in
    let terms = c.as_slice.ensures.value ∙ c.in_ok-push-2.ensures.items ∙ ap₂ (λ xs t. xs ++ t ∷ []) c.in_ok-terms.ensures c.in_ok-share.ensures in
    columns_same c.args.rel.now c.in_ok-shown.shown c.as_slice-2.result.now (run 0 (length places + 1) ++ (length places + 1 + c.args.place) ∷ []) c.as_slice.result.now (value_terms value places ++ c.args.row.now.term ∷ [])
    keep terms c.in_ok-shown.ensures.shown
