-- A constructor and many free cells behind it, bound to it one after the other.
use Rattle.std.proofs.Common.{◌≡◌, ◌≢◌, inl, inr, ℕ, ◌+◌, ◌<◌, ◌==◌, Some, List, [], ◌∷◌, ◌++◌, length, slice_get, All, ap, sym, ◌∙◌, subst, arith, length-append}
use Rattle.std.proofs.lemmas.Bool.{eqb-true, eqb-false, cases_Bool}
use Rattle.std.proofs.lemmas.List.Elements.{All-append, All-weaker}
use Rattle.psg_pool.specs.declared.cells.CellId.{CellId}
use Rattle.psg_pool.specs.declared.cells.Binding.{Binding}
use Rattle.psg_pool.specs.Cells.{Put, free, constructor}
use Rattle.psg_pool.specs.Bindings.{Kept, IsFree, IsSound, Leads}
use Rattle.psg_pool.specs.Marks.{Lengths}
use Rattle.psg_pool.proofs.Places.{slice_get-append, slice_get-append_last}
use Rattle.psg_pool.proofs.Soundness.{All-one}
use Rattle.psg_pool.proofs.Laws.{not_bound, constructor_not_bound, leads_nowhere}

-- a constructor, and so many free cells
pub record IsRow (cells : List Put) (count : ℕ) : Type 0 where
  pub size : length cells ≡ count + 1
  pub first : slice_get cells 0 ≡ Some (constructor 7 [])
  pub frees : (i : ℕ) → 0 < i → i < length cells → slice_get cells i ≡ Some (free 9)

-- one more free cell
pub row_more : (old new : List Put) (count : ℕ) → IsRow old count → new ≡ old ++ free 9 ∷ [] → IsRow new (count + 1)
row_more old new count row is = record { size = size; first = first; frees = frees } where
  size : length new ≡ count + 1 + 1
  size = omega (arith, row.size, ap (λ (l : List Put). length l) is, length-append old (free 9 ∷ []))

  first : slice_get new 0 ≡ Some (constructor 7 [])
  first = subst (λ (l : List Put). slice_get l 0 ≡ Some (constructor 7 [])) (sym is) (slice_get-append old (free 9 ∷ []) 0 (constructor 7 []) row.first)

  frees : (i : ℕ) → 0 < i → i < length new → slice_get new i ≡ Some (free 9)
  frees i above below = subst (λ (l : List Put). slice_get l i ≡ Some (free 9)) (sym is) (elim (cases_Bool (i == length old)) [
    | inl t ↦ slice_get-append_last old (free 9) i (eqb-true i (length old) t)
    | inr f ↦
        let apart : i ≢ length old = eqb-false i (length old) f in
        let within : i < length old = omega (arith, apart, below, size, row.size) in
        slice_get-append old (free 9 ∷ []) i (free 9) (row.frees i above within)
  ])

-- the first free cells of a row are bound, and a mark was made before
pub record AreBound (kept : Kept) (mark : Lengths) (bound many : ℕ) : Type 0 where
  pub row : IsRow kept.cells many
  pub below : All (λ b. b.bound.0 < bound + 1) kept.bindings
  pub sound : IsSound kept
  pub cells : mark.cells ≡ many + 1
  pub bindings : mark.bindings ≡ 0

-- the next one is free
pub next_free : (kept : Kept) (mark : Lengths) (bound many : ℕ) (id : CellId) → AreBound kept mark bound many → bound < many → id.0 ≡ bound + 1
    → IsFree kept id
next_free kept mark bound many id are more is =
    let above : 0 < id.0 = omega (arith, is) in
    let within : id.0 < length kept.cells = omega (arith, is, more, are.row.size) in (
      (9, are.row.frees id.0 above within),
      not_bound kept.bindings id
          (All-weaker (λ b. b.bound.0 < bound + 1) (λ b. b.bound.0 ≢ id.0) (λ b h same. omega (arith, h, same, is)) kept.bindings are.below),
    )

-- the constructor leads nowhere
pub first_apart : (kept : Kept) (mark : Lengths) (bound many : ℕ) (id constant : CellId) → AreBound kept mark bound many → id.0 ≡ bound + 1
    → constant.0 ≡ 0 → Leads kept.bindings constant id → ⊥
first_apart kept mark bound many id constant are is first =
    let here : slice_get kept.cells constant.0 ≡ Some (constructor 7 []) = ap (λ (n : ℕ). slice_get kept.cells n) first ∙ are.row.first in
    let apart : constant.0 ≢ id.0 = omega (arith, is, first) in
    leads_nowhere kept.bindings constant id (constructor_not_bound kept constant 7 [] are.sound here) apart

-- it is bound
pub one_bound : (old new : Kept) (mark : Lengths) (bound many : ℕ) (b : Binding) → AreBound old mark bound many → b.bound.0 ≡ bound + 1
    → new.cells ≡ old.cells → new.bindings ≡ old.bindings ++ b ∷ [] → IsSound new → AreBound new mark (bound + 1) many
one_bound old new mark bound many b are is cells bindings sound = record {
  row = subst (λ (l : List Put). IsRow l many) (sym cells) are.row;
  below = subst (λ (l : List Binding). All (λ (b : Binding). b.bound.0 < bound + 1 + 1) l) (sym bindings)
      (All-append (λ (b : Binding). b.bound.0 < bound + 1 + 1) old.bindings (b ∷ [])
      (All-weaker (λ b. b.bound.0 < bound + 1) (λ b. b.bound.0 < bound + 1 + 1) (λ b h. omega (arith, h)) old.bindings are.below)
      (All-one (λ (b : Binding). b.bound.0 < bound + 1 + 1) b (omega (arith, is))));
  sound = sound;
  cells = are.cells;
  bindings = are.bindings;
}
