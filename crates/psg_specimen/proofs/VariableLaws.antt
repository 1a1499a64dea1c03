-- Laws of variables that were met.
use Rattle.std.proofs.Common.{◌≡◌, ◌≢◌, inl, inr, ℕ, ◌==◌, ◌&&◌, Bool, true, false, cond, List, [], ◌∷◌, Option, Some, None, sym, ap, ap₂, ◌∙◌, subst, eqb-true, eq-eqb, true≢false}
use Rattle.std.specs.Prelude.{◌↔◌}
use Rattle.std.proofs.lemmas.Bool.{cases_Bool, and_parts}
use Rattle.psg_terms.specs.Terms.{Term, variable, symbol, apply, applied}
use Rattle.psg_terms.specs.Signature.{Signature, only_constructor}
use Rattle.psg_terms.specs.Matching.{same_key}
use Rattle.psg_terms.specs.declared.canonical.Key.{Key}
use Rattle.psg_terms.proofs.Nodes.{no_variable}
use Rattle.psg_specimen.specs.Variables.{AreMet, IsDifferent, IsNew}

abbrev key : ℕ → ℕ → Key
key s n = record { sort = record { 0 = s }; number = n }

abbrev sort_of : Term → ℕ
sort_of (variable s n) = s
sort_of (symbol c) = 0
sort_of (apply f a) = 0

abbrev number_of : Term → ℕ
number_of (variable s n) = n
number_of (symbol c) = 0
number_of (apply f a) = 0

pub same_variable : (s n r k : ℕ) → variable s n ≡ variable r k → (s ≡ r) × (n ≡ k)
same_variable s n r k e = (ap sort_of e, ap number_of e)

keys_same : (k j : Key) → same_key k j ≡ true → variable k.sort.0 k.number ≡ variable j.sort.0 j.number
keys_same k j e = let both = and_parts (k.sort.0 == j.sort.0) (k.number == j.number) e in ap₂ variable (eqb-true k.sort.0 j.sort.0 both.0) (eqb-true k.number j.number both.1)

same_keys : (k j : Key) → variable k.sort.0 k.number ≡ variable j.sort.0 j.number → same_key k j ≡ true
same_keys k j e = let both = same_variable k.sort.0 k.number j.sort.0 j.number e in ap₂ (λ x y. x && y) (eq-eqb k.sort.0 j.sort.0 both.0) (eq-eqb k.number j.number both.1)

module _ (sig : Signature) (has : Key → Bool) (arg : Term) (s : ℕ) where
  pub var_other : (own n : ℕ) → arg ≡ variable own n → own ≢ s → None ≡ only_constructor sig s → (rest : List Term) → IsDifferent sig arg s rest → ⊥
  var_other own n e ne none rest d = elim d [
    | inl h ↦ (let (c, some, same) = h in let f : ◌≡◌ {A = Option ℕ} None (Some c) = none ∙ some in cc)
    | inr h ↦ (let (k, only, same, new) = h in ne (same_variable own n s k (sym e ∙ same)).0)
  ]

  pub var_met : (own n : ℕ) → arg ≡ variable own n → own ≡ s → None ≡ only_constructor sig s → has (key own n) ≡ true → (rest : List Term) → AreMet has rest → IsDifferent sig arg s rest → ⊥
  var_met own n e own_is none met rest are d = elim d [
    | inl h ↦ (let (c, some, same) = h in let f : ◌≡◌ {A = Option ℕ} None (Some c) = none ∙ some in cc)
    | inr h ↦ (let (k, only, same, new) = h in
        true≢false (sym met ∙ (are (key own n)).1 (subst (λ t. IsNew t rest) (sym same ∙ e) new)))
  ]

  pub var_new : (own n : ℕ) → arg ≡ variable own n → own ≡ s → None ≡ only_constructor sig s → has (key own n) ≡ false → (rest : List Term) → AreMet has rest → IsDifferent sig arg s rest
  var_new own n e own_is none met rest are =
      let same : variable own n ≡ variable s n = ap (λ r. variable r n) own_is in
      inr (n, sym none, e ∙ same, subst (λ t. IsNew t rest) same ((are (key own n)).0 met))

  pub con_other : (c : ℕ) (args : List Term) → arg ≡ applied (symbol c) args → None ≡ only_constructor sig s → (rest : List Term) → IsDifferent sig arg s rest → ⊥
  con_other c args e none rest d = elim d [
    | inl h ↦ (let (k, some, same) = h in let f : ◌≡◌ {A = Option ℕ} None (Some k) = none ∙ some in cc)
    | inr h ↦ (let (k, only, same, new) = h in no_variable c s k args (sym e ∙ same))
  ]

  pub constant : (b : Bool) (d : ℕ) → Some d ≡ only_constructor sig s → (b ≡ true → arg ≡ symbol d) × (arg ≡ symbol d → b ≡ true) → (rest : List Term) → (b ≡ true) ↔ IsDifferent sig arg s rest
  constant b d some both rest = (
    λ t. inl (d, sym some, both.0 t),
    λ h. elim h [
      | inl k ↦ (let (c, one, same) = k in both.1 (same ∙ ap symbol (let f : ◌≡◌ {A = Option ℕ} (Some d) (Some c) = some ∙ one in sym (inside d c f))))
      | inr k ↦ absurd (let (n, only, same, new) = k in let f : ◌≡◌ {A = Option ℕ} (Some d) None = some ∙ only in cc)
    ],
  ) where
    inside : (a c : ℕ) → ◌≡◌ {A = Option ℕ} (Some a) (Some c) → a ≡ c
    inside a c f = cc

  pub constant_met : (d : ℕ) → arg ≡ symbol d → (rest : List Term) → AreMet has rest → AreMet has (arg ∷ rest)
  constant_met d e rest are k = (
    λ h. (λ same. no_variable d k.sort.0 k.number [] (sym e ∙ same), (are k).0 h),
    λ h. (are k).1 h.1,
  )

pub var_next : (old new : Key → Bool) (arg : Term) (own n : ℕ) → arg ≡ variable own n → ((j : Key) → new j ≡ cond (same_key (key own n) j) true (old j)) → (rest : List Term) → AreMet old rest → AreMet new (arg ∷ rest)
var_next old new arg own n e step rest are j = elim (cases_Bool (same_key (key own n) j)) [
  | inl t ↦ (
    λ h. absurd (true≢false (sym (step j ∙ ap (λ b. cond b true (old j)) t) ∙ h)),
    λ h. absurd (h.0 (e ∙ keys_same (key own n) j t)),
  )
  | inr f ↦ (
      let same : new j ≡ old j = step j ∙ ap (λ b. cond b true (old j)) f in (
        λ h. (λ q. true≢false (sym (same_keys (key own n) j (sym e ∙ q)) ∙ f), (are j).0 (sym same ∙ h)),
        λ h. same ∙ (are j).1 h.1,
      ))
]

pub nothing_met : (has : Key → Bool) → ((k : Key) → has k ≡ false) → (xs : List Term) → xs ≡ [] → AreMet has xs
nothing_met has none xs e k = subst (λ l. (has k ≡ false) ↔ IsNew (variable k.sort.0 k.number) l) (sym e) (λ h. tt, λ h. none k)
