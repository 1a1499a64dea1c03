-- Laws for callers: which cells are not bound, where bindings lead, and how long a mark may be released.
use Rattle.std.proofs.Common.{◌≡◌, ◌≢◌, inl, inr, ℕ, suc, ◌<◌, ◌≤◌, ◌==◌, Some, None, List, [], ◌∷◌, ◌++◌, length, take, slice_get, All, refl, ap, sym, ◌∙◌, subst, arith, length-append}
use Rattle.std.proofs.lemmas.Bool.{eqb-true, cases_Bool}
use Rattle.std.proofs.lemmas.List.{take-append-le, length-take, take-take}
use Rattle.std.proofs.lemmas.Option.{slice_get_within}
use Rattle.std.proofs.lemmas.List.Elements.{All-weaker}
use Rattle.psg_pool.specs.declared.cells.CellId.{CellId}
use Rattle.psg_pool.specs.declared.cells.Binding.{Binding}
use Rattle.psg_pool.specs.Cells.{Put, free, constructor}
use Rattle.psg_pool.specs.Bindings.{Kept, target_of, IsOver, IsSound, Leads, arrived, followed}
use Rattle.psg_pool.specs.Marks.{Lengths, IsReleasable}
use Rattle.psg_pool.proofs.Links.{target_of_there}

-- a cell that no binding binds
pub not_bound : (bs : List Binding) (id : CellId) → All (λ b. b.bound.0 ≢ id.0) bs → target_of bs id ≡ None
not_bound [] id apart = refl
not_bound (b ∷ rest) id apart = elim (cases_Bool (b.bound.0 == id.0)) [
  | inl t ↦ let first : 0 < length (b ∷ rest) = omega arith in absurd (apart 0 b first (eqb-true b.bound.0 id.0 t))
  | inr f ↦ target_of_there b rest id f ∙ not_bound rest id (λ k d h. apart (suc k) d (omega (arith, h)))
]

-- a cell that is not in the pool yet
pub new_not_bound : (kept : Kept) (id : CellId) → IsSound kept → length kept.cells ≤ id.0 → target_of kept.bindings id ≡ None
new_not_bound kept id sound past =
    not_bound kept.bindings id
    (All-weaker (IsOver kept.cells) (λ b. b.bound.0 ≢ id.0) (λ b over same. omega (arith, past, same, slice_get_within kept.cells b.bound.0 (free over.0.0) over.0.1)) kept.bindings sound.over)

-- a constructor cell
pub constructor_not_bound : (kept : Kept) (id : CellId) (number : ℕ) (arguments : List CellId) → IsSound kept
    → slice_get kept.cells id.0 ≡ Some (constructor number arguments) → target_of kept.bindings id ≡ None
constructor_not_bound kept id number arguments sound here =
    not_bound kept.bindings id
    (All-weaker (IsOver kept.cells) (λ b. b.bound.0 ≢ id.0) (λ b over same.
    let e : Some (free over.0.0) ≡ Some (constructor number arguments) =
    sym over.0.1 ∙ ap (λ (n : ℕ). slice_get kept.cells n) same ∙ here in
    cc) kept.bindings
    sound.over)

-- bindings lead from a cell that is not bound to itself alone
pub leads_nowhere : (bs : List Binding) (from to : CellId) → target_of bs from ≡ None → from.0 ≢ to.0 → Leads bs from to → ⊥
leads_nowhere bs from _ unbound apart (arrived _) = apart refl
leads_nowhere bs from to unbound apart (followed _ next _ e rest) = let x : Some next ≡ None = sym e ∙ unbound in cc

-- a mark may still be released when cells and bindings came behind it
pub releasable_grown : (kept : Kept) (mark : Lengths) (cells : List Put) (bindings : List Binding) → IsReleasable kept mark
    → IsReleasable (record { cells = kept.cells ++ cells; bindings = kept.bindings ++ bindings }) mark
releasable_grown kept mark cells bindings can = record {
  cells = omega (arith, can.cells, length-append kept.cells cells);
  bindings = omega (arith, can.bindings, length-append kept.bindings bindings);
  stay = subst (λ (l : List Binding). All (λ (b : Binding). (b.bound.0 < mark.cells) × (b.target.0 < mark.cells)) l)
      (sym (take-append-le mark.bindings kept.bindings bindings can.bindings)) can.stay;
}

-- a mark may still be released when a later one was
pub releasable_released : (kept : Kept) (mark later : Lengths) → IsReleasable kept mark → IsReleasable kept later → mark.cells ≤ later.cells
    → mark.bindings ≤ later.bindings
    → IsReleasable (record { cells = take later.cells kept.cells; bindings = take later.bindings kept.bindings }) mark
releasable_released kept mark later can can_later cells bindings = record {
  cells = omega (arith, can.cells, cells, length-take later.cells kept.cells);
  bindings = omega (arith, can.bindings, bindings, length-take later.bindings kept.bindings);
  stay = subst (λ (l : List Binding). All (λ (b : Binding). (b.bound.0 < mark.cells) × (b.target.0 < mark.cells)) l)
      (sym (take-take mark.bindings later.bindings kept.bindings bindings)) can.stay;
}
