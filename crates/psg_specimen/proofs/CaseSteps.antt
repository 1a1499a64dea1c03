-- Steps of the walks over arguments and cases.
use Rattle.std.proofs.Common.{◌≡◌, inl, inr, ℕ, suc, ◌+◌, ◌-◌, ◌<◌, Bool, true, false, List, [], ◌∷◌, length, drop, get_or, slice_get, refl, sym, ap, ◌∙◌, subst, arith, true≢false}
use Rattle.std.proofs.lemmas.Bool.{cases_eq}
use Rattle.psg_terms.proofs.Lists.{slice_get_item, slice_get_once, drop_item_suc}
use Rattle.std.specs.Prelude.{◌↔◌}
use Rattle.psg_terms.specs.Terms.{Term}
use Rattle.psg_terms.specs.Kept.{numbers_of}
use Rattle.psg_terms.specs.Signature.{Signature}
use Rattle.psg_terms.specs.declared.sorts.SortId.{SortId}
use Rattle.psg_terms.specs.declared.sorts.ConId.{ConId}
use Rattle.psg_terms.specs.declared.canonical.Key.{Key}
use Rattle.psg_grammar.specs.declared.types.Case.{Case}
use Rattle.psg_completions.specs.Cases.{AreDifferent, IsOver}
use Rattle.psg_specimen.specs.Variables.{AreMet, IsDifferent}
use Rattle.psg_specimen.proofs.OverLaws.{AllOver, one_fails, one_more}

pub drop_all : {X : Type 0} (xs : List X) (n : ℕ) → n ≡ length xs → drop n xs ≡ []
drop_all {X = X} [] n e = subst (λ k. drop {A = X} k [] ≡ []) (sym e) refl
drop_all (x ∷ xs) n e = subst (λ k. drop k (x ∷ xs) ≡ []) (sym e) (drop_all xs (length xs) refl)

module _ (sig : Signature) (terms : List Term) (sorts : List SortId) (done : ℕ) (a : Term) (s : SortId) (lt : done < length terms) (len : length terms ≡ length sorts) (is : a ≡ get_or terms (length terms - 1 - done) a) (iss : s ≡ get_or sorts (length terms - 1 - done) s) (old : Key → Bool) (met : AreMet old (drop (length terms - done) terms)) where
  unfolding_place : length terms - done ≡ suc (length terms - 1 - done)
  unfolding_place = omega (arith, lt)

  behind : AreMet old (drop (suc (length terms - 1 - done)) terms)
  behind = subst (λ k. AreMet old (drop k terms)) unfolding_place met

  pub different_step : (new : Key → Bool) (b : Bool) → AreDifferent sig (drop (length terms - done) terms) (drop (length terms - done) (numbers_of sorts))
      → ((rest : List Term) → AreMet old rest → (b ≡ true) ↔ IsDifferent sig a s.0 rest) → ((rest : List Term) → AreMet old rest → b ≡ true → AreMet new (a ∷ rest)) → b ≡ true
      → AreMet new (drop (length terms - (done + 1)) terms) × AreDifferent sig (drop (length terms - (done + 1)) terms) (drop (length terms - (done + 1)) (numbers_of sorts))
  different_step new b held test grown t =
      let p = length terms - 1 - done in
      let here : p ≡ length terms - (done + 1) = omega (arith, lt) in
      let inside : p < length terms = omega (arith, lt) in
      let inside_too : p < length sorts = omega (arith, lt, len) in
      let later = subst (λ k. AreDifferent sig (drop k terms) (drop k (numbers_of sorts))) unfolding_place held in (
        subst (λ k. AreMet new (drop k terms)) here (subst (AreMet new) (sym (drop_item_suc terms p a inside is)) (grown (drop (suc p) terms) behind t)),
        subst (λ k. AreDifferent sig (drop k terms) (drop k (numbers_of sorts))) here (one_more sig terms sorts p a s inside inside_too is iss ((test (drop (suc p) terms) behind).0 t) later),
      )

  pub different_fails : (b : Bool) → ((rest : List Term) → AreMet old rest → (b ≡ true) ↔ IsDifferent sig a s.0 rest) → b ≡ false → AreDifferent sig terms (numbers_of sorts) → ⊥
  different_fails b test f =
      let p = length terms - 1 - done in
      let inside : p < length terms = omega (arith, lt) in
      let inside_too : p < length sorts = omega (arith, lt, len) in
      one_fails sig terms sorts p a s inside inside_too is iss (λ d. true≢false (sym ((test (drop (suc p) terms) behind).1 d) ∙ f))

pub over_next : (sig : Signature) (cases : List Case) (cs : List ConId) (i : ℕ) (one : Case) (c : ConId) → i < length cases → i < length cs → one ≡ get_or cases i one → c ≡ get_or cs i c
    → IsOver sig c.0 one.term → AllOver sig cases cs i → AllOver sig cases cs (i + 1)
over_next sig cases cs i one c lt ltt e ee o h m x d less at there = elim (cases_eq m i) [
  | inl same ↦ (
      let x_is : one ≡ x = slice_get_once cases i one x (slice_get_item cases i one lt e) (ap (slice_get cases) (sym same) ∙ at) in
      let d_is : c ≡ d = slice_get_once cs i c d (slice_get_item cs i c ltt ee) (ap (slice_get cs) (sym same) ∙ there) in
      subst (λ (y : Case). IsOver sig d.0 y.term) x_is (subst (λ (k : ConId). IsOver sig k.0 one.term) d_is o))
  | inr ne ↦ h m x d (omega (arith, less, ne)) at there
]
