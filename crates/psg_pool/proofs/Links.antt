-- The slot of a bound cell names the place of its binding.
use Rattle.std.proofs.Common.{◌≡◌, ◌≢◌, inl, inr, ℕ, suc, zero, ◌+◌, ◌<◌, ◌==◌, false, Some, None, List, [], ◌∷◌, ◌++◌, length, take, slice_get, All, if◌then◌else◌, refl, ap, sym, ◌∙◌, subst, arith}
use Rattle.std.proofs.Math.ListN.{set}
use Rattle.std.specs.Option.{option_and_then}
use Rattle.std.proofs.lemmas.Option.{option_and_then_some}
use Rattle.std.proofs.lemmas.Bool.{eq-eqb, eqb-true, eqb-false, cases_Bool}
use Rattle.psg_pool.specs.declared.cells.CellId.{CellId}
use Rattle.psg_pool.specs.declared.cells.Binding.{Binding}
use Rattle.psg_pool.specs.declared.pool.Slot.{Slot}
use Rattle.psg_pool.specs.Bindings.{target_of}
use Rattle.psg_pool.specs.Layout.{place_in, place_at, IsLinked}
use Rattle.psg_pool.proofs.Places.{slice_get-append, slice_get-take, slice_get-set_other}

-- cells with one number have one slot
pub place_at_same : (slots : List Slot) (a b : CellId) → a.0 ≡ b.0 → place_at slots a ≡ place_at slots b
place_at_same slots a b e = ap (λ (n : ℕ). place_at slots (record { 0 = n })) e

-- a look-up goes by the number of the first bound cell
pub target_of_here : (b : Binding) (rest : List Binding) (id : CellId) → b.bound.0 ≡ id.0 → target_of (b ∷ rest) id ≡ Some b.target
target_of_here b rest id e = subst (λ v. (if v then Some b.target else target_of rest id) ≡ Some b.target) (sym (eq-eqb b.bound.0 id.0 e)) refl

pub target_of_there : (b : Binding) (rest : List Binding) (id : CellId) → (b.bound.0 == id.0) ≡ false → target_of (b ∷ rest) id ≡ target_of rest id
target_of_there b rest id e = subst (λ v. (if v then Some b.target else target_of rest id) ≡ target_of rest id) (sym e) refl

-- the binding at the place that the cell's slot names is the cell's, if it binds the cell
pub found : (slots : List Slot) (bs : List Binding) (place j p : ℕ) (id : CellId) (b : Binding) → IsLinked slots place bs
    → place_at slots id ≡ Some p → p ≡ place + j → slice_get bs j ≡ Some b → b.bound.0 ≡ id.0 → target_of bs id ≡ Some b.target
found slots [] place j p id b linked at is here same = cc
found slots (c ∷ rest) place zero p id b linked at is here same =
    let e : c ≡ b = cc in
    target_of_here c rest id (ap (λ (x : Binding). x.bound.0) e ∙ same) ∙ ap (λ (x : Binding). Some x.target) e
found slots (c ∷ rest) place (suc j) p id b linked at is here same = elim (cases_Bool (c.bound.0 == id.0)) [
  | inl t ↦
      let e : Some place ≡ Some p = sym linked.0 ∙ place_at_same slots c.bound id (eqb-true c.bound.0 id.0 t) ∙ at in
      let n : place ≡ p = cc in absurd (omega (arith, n, is))
  | inr f ↦ target_of_there c rest id f ∙ found slots rest (suc place) j p id b linked.1 at (omega (arith, is)) here same
]

-- no binding binds the cell where the one at the place that its slot names does not
pub not_found : (slots : List Slot) (bs : List Binding) (place p : ℕ) (id : CellId) → IsLinked slots place bs → place_at slots id ≡ Some p
    → ((j : ℕ) (b : Binding) → p ≡ place + j → slice_get bs j ≡ Some b → b.bound.0 ≢ id.0) → target_of bs id ≡ None
not_found slots [] place p id linked at apart = refl
not_found slots (c ∷ rest) place p id linked at apart = elim (cases_Bool (c.bound.0 == id.0)) [
  | inl t ↦
      let same : c.bound.0 ≡ id.0 = eqb-true c.bound.0 id.0 t in
      let e : Some place ≡ Some p = sym linked.0 ∙ place_at_same slots c.bound id same ∙ at in
      let n : place ≡ p = cc in absurd (apart 0 c (omega (arith, n)) refl same)
  | inr f ↦
      target_of_there c rest id f
      ∙ not_found slots rest (suc place) p id linked.1 at (λ j b is here. apart (suc j) b (omega (arith, is)) here)
]

-- a cell whose slot names no place is not bound
pub never_bound : (slots : List Slot) (bs : List Binding) (place : ℕ) (id : CellId) → IsLinked slots place bs → place_at slots id ≡ None
    → target_of bs id ≡ None
never_bound slots [] place id linked at = refl
never_bound slots (c ∷ rest) place id linked at = elim (cases_Bool (c.bound.0 == id.0)) [
  | inl t ↦
      let e : Some place ≡ None = sym linked.0 ∙ place_at_same slots c.bound id (eqb-true c.bound.0 id.0 t) ∙ at in
      cc
  | inr f ↦ target_of_there c rest id f ∙ never_bound slots rest (suc place) id linked.1 at
]

-- more slots keep the links
pub linked_grown : (slots more : List Slot) (bs : List Binding) (place : ℕ) → IsLinked slots place bs → IsLinked (slots ++ more) place bs
linked_grown slots more [] place linked = tt
linked_grown slots more (b ∷ rest) place linked = (
  option_and_then_some (λ (slot : Slot). place_in slot.content) (slice_get slots b.bound.0) place linked.0
      (λ slot got is. ap (option_and_then (λ (s : Slot). place_in s.content)) (slice_get-append slots more b.bound.0 slot got) ∙ is),
  linked_grown slots more rest (suc place) linked.1,
)

-- the first bindings are linked
pub linked_take : (slots : List Slot) (bs : List Binding) (place m : ℕ) → IsLinked slots place bs → IsLinked slots place (take m bs)
linked_take slots bs place zero linked = tt
linked_take slots [] place (suc m) linked = tt
linked_take slots (b ∷ rest) place (suc m) linked = (linked.0, linked_take slots rest (suc place) m linked.1)

-- the first slots keep the links of bindings that bind their cells
pub linked_cut : (slots : List Slot) (n : ℕ) (bs : List Binding) (place : ℕ) → All (λ (b : Binding). b.bound.0 < n) bs → IsLinked slots place bs
    → IsLinked (take n slots) place bs
linked_cut slots n [] place below linked = tt
linked_cut slots n (b ∷ rest) place below linked =
    let here : b.bound.0 < n = below 0 b (omega arith) in (
      ap (option_and_then (λ (s : Slot). place_in s.content)) (slice_get-take slots n b.bound.0 here) ∙ linked.0,
      linked_cut slots n rest (suc place) (λ k d h. below (suc k) d (omega (arith, h))) linked.1,
    )

-- a write to the slot of a cell that is not bound keeps the links
pub linked_set : (slots : List Slot) (id : CellId) (slot : Slot) (bs : List Binding) (place : ℕ) → target_of bs id ≡ None → IsLinked slots place bs
    → IsLinked (set slots id.0 slot) place bs
linked_set slots id slot [] place free linked = tt
linked_set slots id slot (b ∷ rest) place free linked = elim (cases_Bool (b.bound.0 == id.0)) [
  | inl t ↦ let e : Some b.target ≡ None = sym (target_of_here b rest id (eqb-true b.bound.0 id.0 t)) ∙ free in cc
  | inr f ↦ (
    ap (option_and_then (λ (s : Slot). place_in s.content)) (slice_get-set_other slots b.bound.0 id.0 slot (eqb-false b.bound.0 id.0 f)) ∙ linked.0,
    linked_set slots id slot rest (suc place) (sym (target_of_there b rest id f) ∙ free) linked.1,
  )
]

-- one more binding, whose place is named
pub linked_more : (slots : List Slot) (bs : List Binding) (place p : ℕ) (b : Binding) → IsLinked slots place bs → p ≡ place + length bs
    → place_at slots b.bound ≡ Some p → IsLinked slots place (bs ++ b ∷ [])
linked_more slots [] place p b linked is at = let e : p ≡ place = omega (arith, is) in (at ∙ ap (λ (n : ℕ). Some n) e, tt)
linked_more slots (c ∷ rest) place p b linked is at = (linked.0, linked_more slots rest (suc place) p b linked.1 (omega (arith, is)) at)
