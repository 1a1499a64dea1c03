-- Laws of names in order.
use Rattle.std.proofs.Common.{◌≡◌, ℕ, ◌||◌, Bool, true, false, if◌then◌else◌, List, [], ◌∷◌, ◌++◌, map, slice_get, get_or, refl, ap, ap₂, sym, ◌∙◌, inl, inr, Option, Some, None}
use Rattle.std.proofs.lemmas.Bool.{true≢false, cases_Bool}
use Rattle.std.proofs.lemmas.List.{map-append}
use Rattle.std.proofs.lemmas.List.Quantifiers.{position-Some}
use Rattle.std.proofs.lemmas.Option.{slice_get-map, slice_get-get_or}
use Rattle.std.specs.List.{list_any, position}
use Rattle.std.specs.Option.{option_map}
use Rattle.std.specs.Prelude.{IfSome}
use Rattle.std.specs.Str.{bytes_eq}
use Rattle.std.specs.Borrow.{Bor}
use Rattle.psg_terms.specs.Names.{Name, is_among}
use Rattle.psg_terms.proofs.DeclareLaws.{is_among-append, bytes_eq-same, bytes_eq-refl, bytes_eq-sym}

abbrev pub Keys : Type 0
Keys = List (Bor (List ℕ))

abbrev pub texts : Keys → List Name
texts ks = map (λ (k : Bor (List ℕ)). k.now) ks

bytes_eq-swap : (m n : Name) → bytes_eq m n ≡ bytes_eq n m
bytes_eq-swap m n = elim (cases_Bool (bytes_eq m n)) [
  | inl e ↦ e ∙ sym (ap (λ x. bytes_eq x m) (sym (bytes_eq-same m n e)) ∙ bytes_eq-refl m)
  | inr e ↦ e ∙ sym (bytes_eq-sym m n e)
]

pub listed-among : (ks : Keys) (n : Name) → list_any (λ (k : Bor (List ℕ)). bytes_eq n k.now) ks ≡ is_among (texts ks) n
listed-among [] n = refl
listed-among (k ∷ ks) n = ap₂ (λ a b. a || b) (bytes_eq-swap n k.now) (listed-among ks n)

-- the position is that of the name
pub listed-place : (ks : Keys) (n : Bor (List ℕ)) (o : Option ℕ) → o ≡ position (λ (k : Bor (List ℕ)). bytes_eq n.now k.now) ks → IfSome o (λ p. slice_get (texts ks) p ≡ Some n.now)
listed-place ks n None e = tt
listed-place ks n (Some p) e =
    let h = position-Some (λ (k : Bor (List ℕ)). bytes_eq n.now k.now) ks p n (sym e) in
    slice_get-map (λ (k : Bor (List ℕ)). k.now) ks p ∙ ap (option_map (λ (k : Bor (List ℕ)). k.now)) (slice_get-get_or ks p n h.0) ∙ ap Some (sym (bytes_eq-same n.now (get_or ks p n).now h.1))

abbrev pub with_key : Keys → Bor (List ℕ) → Keys
with_key ks k = if list_any (λ (j : Bor (List ℕ)). bytes_eq k.now j.now) ks then ks else ks ++ k ∷ []

pub listed-last : (ks : Keys) (k : Bor (List ℕ)) → is_among (texts ks) k.now ≡ false → texts (with_key ks k) ≡ texts ks ++ k.now ∷ []
listed-last ks k new =
    ap (λ b. texts (if b then ks else ks ++ k ∷ [])) (listed-among ks k.now ∙ new) ∙ map-append (λ (j : Bor (List ℕ)). j.now) ks (k ∷ [])

or-swap : (a b : Bool) → (a || (b || false)) ≡ (b || a)
or-swap true true = refl
or-swap true false = refl
or-swap false true = refl
or-swap false false = refl

pub listed-insert : (ks : Keys) (k : Bor (List ℕ)) (n : Name) → is_among (texts (with_key ks k)) n ≡ (bytes_eq k.now n || is_among (texts ks) n)
listed-insert ks k n = elim (cases_Bool (is_among (texts ks) k.now)) [
  | inl e ↦ ap (λ b. is_among (texts (if b then ks else ks ++ k ∷ [])) n) (listed-among ks k.now ∙ e) ∙ there e
  | inr e ↦ ap (λ l. is_among l n) (listed-last ks k e) ∙ is_among-append (texts ks) (k.now ∷ []) n ∙ or-swap (is_among (texts ks) n) (bytes_eq k.now n)
]
  where
    there : is_among (texts ks) k.now ≡ true → is_among (texts ks) n ≡ (bytes_eq k.now n || is_among (texts ks) n)
    there e = elim (cases_Bool (bytes_eq k.now n)) [
      | inl f ↦ ap (is_among (texts ks)) (sym (bytes_eq-same k.now n f)) ∙ e ∙ sym (ap (λ b. b || is_among (texts ks) n) f)
      | inr f ↦ sym (ap (λ b. b || is_among (texts ks) n) f)
    ]
