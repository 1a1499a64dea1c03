-- Walks that end at the first thing for which something fails.
use Rattle.std.proofs.Common.{Bor, drop, take, ◌≡◌, inl, inr, ℕ, zero, suc, ◌+◌, ◌<◌, List, [], ◌∷◌, length, get_or, Option, Some, None, slice_get, refl, ap, sym, ◌∙◌, subst, arith}
use Rattle.std.specs.Option.{option_copied}
use Rattle.std.proofs.lemmas.Bool.{cases_eq}
use Rattle.std.proofs.lemmas.Option.{none-some, slice_get_within}
use Rattle.psg_terms.proofs.Lists.{slice_get_item, slice_get_once}

-- what holds of the thing at a place, and of each place where there is none
abbrev pub At : {X : Type 0} → List X → (X → Type 0) → ℕ → Type 0
At {X = X} xs P n = (x : X) → slice_get xs n ≡ Some x → P x

-- it holds of the places before, and of this one
pub next : (Holds : ℕ → Type 0) (i : ℕ) → Holds i → ((m : ℕ) → m < i → Holds m) → (m : ℕ) → m < i + 1 → Holds m
next Holds i p h m lt = elim (cases_eq m i) [ inl e ↦ subst Holds (sym e) p | inr ne ↦ h m (omega (arith, lt, ne)) ]

module _ {X : Type 0} (xs : List X) (P : X → Type 0) where
  pub here : (i : ℕ) (x : X) → i < length xs → x ≡ get_or xs i x → P x → At xs P i
  here i x lt e p y at = subst P (slice_get_once xs i x y (slice_get_item xs i x lt e) at) p

  pub more : (i : ℕ) (x : X) → i < length xs → x ≡ get_or xs i x → P x → ((m : ℕ) → m < i → At xs P m) → (m : ℕ) → m < i + 1 → At xs P m
  more i x lt e p h = next (At xs P) i (here i x lt e p) h

  pub fails : (i : ℕ) (x : X) → i < length xs → x ≡ get_or xs i x → (P x → ⊥) → At xs P i → ⊥
  fails i x lt e refuted h = refuted (h x (slice_get_item xs i x lt e))

  pub all : (n : ℕ) → n ≡ length xs → ((m : ℕ) → m < n → At xs P m) → (m : ℕ) → At xs P m
  all n e h m x at = h m (subst (λ k. m < k) (sym e) (slice_get_within xs m x at)) x at

pub drop_all : {X : Type 0} (xs : List X) (n : ℕ) → n ≡ length xs → drop n xs ≡ []
drop_all [] zero e = refl
drop_all [] (suc n) e = refl
drop_all (x ∷ xs) zero e = absurd (omega (arith, e))
drop_all (x ∷ xs) (suc n) e = drop_all xs n (omega (arith, e))

pub take_all : {X : Type 0} (xs : List X) (n : ℕ) → n ≡ length xs → take n xs ≡ xs
take_all [] zero e = refl
take_all [] (suc n) e = refl
take_all (x ∷ xs) zero e = absurd (omega (arith, e))
take_all (x ∷ xs) (suc n) e = ap (λ l. x ∷ l) (take_all xs n (omega (arith, e)))

-- ---- what a slice gives

pub got_first : {X : Type 0} (xs : List X) (r : Option (Bor X)) (x : Bor X) (y : X) (ys : List X) → option_copied r ≡ slice_get xs 0 → r ≡ Some x → xs ≡ y ∷ ys → x.now ≡ y
got_first {X} xs None x y ys h e d = absurd (none-some x e)
got_first {X} xs (Some z) x y ys h e d =
    let same : z ≡ x = cc in
    let f : ◌≡◌ {A = Option X} (Some z.now) (Some y) = h ∙ ap (λ l. slice_get l 0) d in
    ap (λ (b : Bor X). b.now) (sym same) ∙ (let g : z.now ≡ y = cc in g)

pub got_no_first : {X : Type 0} (xs : List X) (r : Option (Bor X)) (y : X) (ys : List X) → option_copied r ≡ slice_get xs 0 → r ≡ None → xs ≡ y ∷ ys → ⊥
got_no_first {X} xs r y ys h e d = none-some y (ap option_copied (sym e) ∙ h ∙ ap (λ l. slice_get l 0) d)
