-- What a fitting pool reads as has the sorts of its cells.
use Rattle.std.proofs.Common.{◌≡◌, inl, inr, ℕ, zero, suc, ◌<◌, ◌==◌, Option, Some, None, List, [], ◌∷◌, map, length, slice_get, All, refl, ap, sym, ◌∙◌, subst, arith}
use Rattle.std.proofs.lemmas.Bool.{eqb-true, cases_Bool}
use Rattle.std.proofs.lemmas.List.Elements.{All-weaker, All-head, All-tail}
use Rattle.psg_terms.specs.Terms.{symbol}
use Rattle.psg_terms.specs.Signature.{Signature, HasSort, HaveSorts}
use Rattle.psg_terms.proofs.Applied.{applied-takes}
use Rattle.psg_pool.specs.declared.cells.CellId.{CellId}
use Rattle.psg_pool.specs.declared.cells.Binding.{Binding}
use Rattle.psg_pool.specs.Cells.{Put, free, constructor, IsAmong, arguments_in, arguments_of}
use Rattle.psg_pool.specs.Bindings.{Kept, target_of, IsSound}
use Rattle.psg_pool.proofs.Places.{some_or_none, slice_get_none}
use Rattle.psg_pool.proofs.Links.{target_of_here, target_of_there}
use Rattle.psg_unify.specs.Reading.{Reading, IsReading}
use Rattle.psg_unify.specs.Fitting.{Fits, IsPutOf, IsOfOneSort, sort_at, sort_in, made_sort}
use Rattle.psg_unify.proofs.Laws.{over_at, All-both, read_sorts}

-- what holds of all elements holds of the one at a place
pub all_at : {X : Type 0} (P : X → Type 0) (xs : List X) (i : ℕ) (x : X) → All P xs → slice_get xs i ≡ Some x → P x
all_at P [] i x h e = let none : None ≡ Some x = e in cc
all_at P (y ∷ xs) zero x h e = let same : y ≡ x = cc in subst P same (All-head P y xs h)
all_at P (y ∷ xs) (suc i) x h e = all_at P xs i x (All-tail P y xs h) e

-- a bound cell has the sort of its target
pub sort_of_target : (sig : Signature) (cells : List Put) (bs : List Binding) (id to : CellId) → All (IsOfOneSort sig cells) bs → target_of bs id ≡ Some to
    → sort_at sig cells id ≡ sort_at sig cells to
sort_of_target sig cells [] id to h e = let none : None ≡ Some to = e in cc
sort_of_target sig cells (b ∷ rest) id to h e = elim (cases_Bool (b.bound.0 == id.0)) [
  | inl t ↦
      let here : Some b.target ≡ Some to = sym (target_of_here b rest id (eqb-true b.bound.0 id.0 t)) ∙ e in
      let same : b.target ≡ to = cc in
      ap (λ (n : ℕ). sort_in sig (slice_get cells n)) (sym (eqb-true b.bound.0 id.0 t)) ∙ All-head (IsOfOneSort sig cells) b rest h ∙ ap (sort_at sig cells) same
  | inr f ↦ sort_of_target sig cells rest id to (All-tail (IsOfOneSort sig cells) b rest h) (sym (target_of_there b rest id f) ∙ e)
]

-- what was put has a sort
pub sort_of_put : (sig : Signature) (cells : List Put) (p : Put) → IsPutOf sig cells p → (s : ℕ) × (sort_in sig (Some p) ≡ Some s)
sort_of_put sig cells (free s) h = (s, refl)
sort_of_put sig cells (constructor c args) (y, e, h) = (y.sort, ap made_sort e)

-- each cell has a sort
pub has_a_sort : (sig : Signature) (cells : List Put) (id : CellId) → All (IsPutOf sig cells) cells → IsAmong cells id → (s : ℕ) × (sort_at sig cells id ≡ Some s)
has_a_sort sig cells id puts i = elim (some_or_none (slice_get cells id.0)) [
  | inl n ↦ absurd (omega (arith, i, slice_get_none cells id.0 n))
  | inr p ↦ let k = sort_of_put sig cells p.0 (all_at (IsPutOf sig cells) cells id.0 p.0 puts p.1) in (k.0, ap (sort_in sig) p.1 ∙ k.1)
]

module _ (sig : Signature) (kept : Kept) (sound : IsSound kept) (fits : Fits sig kept) (read : Reading) (r : IsReading kept read) where
  -- what the cell reads as has the cell's sort
  abbrev pub ReadsSorted : CellId → Type 0
  ReadsSorted x = (s : ℕ) → sort_at sig kept.cells x ≡ Some s → HasSort sig (read x) s

  put_sorts : (id : CellId) → target_of kept.bindings id ≡ None → (o : Option Put) → slice_get kept.cells id.0 ≡ o → All ReadsSorted (arguments_in o)
      → (s : ℕ) → sort_in sig o ≡ Some s → HasSort sig (read id) s
  put_sorts id t None e h s k = let none : None ≡ Some s = k in cc
  put_sorts id t (Some (free p)) e h s k =
      let same : p ≡ s = cc in
      let lt : p < length sig.sorts = all_at (IsPutOf sig kept.cells) kept.cells id.0 (free p) fits.puts e in
      subst (λ y. HasSort sig y s) (sym (r.open_cell id p e t)) (lt, refl, same)
  put_sorts id t (Some (constructor c args)) e h s k =
      let p = all_at (IsPutOf sig kept.cells) kept.cells id.0 (constructor c args) fits.puts e in
      let made : Some p.0.sort ≡ Some s = sym (ap made_sort p.1) ∙ k in
      let same : p.0.sort ≡ s = cc in
      subst (λ y. HasSort sig y s) (sym (r.con_cell id c args e))
      (applied-takes sig (symbol c) (map read args) p.0.arguments s (p.0, p.1, refl, same) (read_sorts sig kept.cells read args p.0.arguments p.2 h))

  sorts_within : (n : ℕ) (id : CellId) → fits.height id < n → IsAmong kept.cells id → ReadsSorted id
  sorts_within zero id a i s e = absurd (omega (arith, a))
  sorts_within (suc n) id a i s e = elim (some_or_none (target_of kept.bindings id)) [
    | inr t ↦
        let l = fits.falls.bound id t.0 t.1 in
        subst (λ y. HasSort sig y s) (sym (r.bound_cell id t.0 t.1))
        (sorts_within n t.0 (omega (arith, l, a)) (over_at kept.cells kept.bindings id t.0 sound.over t.1).1 s
        (sym (sort_of_target sig kept.cells kept.bindings id t.0 fits.sorts t.1) ∙ e))
    | inl t ↦ put_sorts id t (slice_get kept.cells id.0) refl
        (All-both (λ x. fits.height x < fits.height id) (λ x. x.0 < id.0) ReadsSorted
        (λ x l m. sorts_within n x (omega (arith, l, a)) (omega (arith, m, i))) (arguments_of kept.cells id) (fits.falls.con id) (sound.arguments id)) s e
  ]

  pub cell_sorts : (id : CellId) → IsAmong kept.cells id → ReadsSorted id
  cell_sorts id i = sorts_within (suc (fits.height id)) id (omega arith) i

  -- cells of these sorts read as a row of these sorts
  pub cells_sorts : (ids : List CellId) (ss : List ℕ) → All (IsAmong kept.cells) ids → map (sort_at sig kept.cells) ids ≡ map (λ (n : ℕ). Some n) ss → HaveSorts sig (map read ids) ss
  cells_sorts ids ss i e = read_sorts sig kept.cells read ids ss e (All-weaker (IsAmong kept.cells) ReadsSorted (λ x l. cell_sorts x l) ids i)

  -- cells read as a row of some sorts
  pub cells_have_sorts : (ids : List CellId) → All (IsAmong kept.cells) ids → (ss : List ℕ) × HaveSorts sig (map read ids) ss
  cells_have_sorts [] i = ([], tt)
  cells_have_sorts (x ∷ ids) i =
      let l = All-head (IsAmong kept.cells) x ids i in
      let s = has_a_sort sig kept.cells x fits.puts l in
      let rest = cells_have_sorts ids (All-tail (IsAmong kept.cells) x ids i) in
      (s.0 ∷ rest.0, (cell_sorts x l s.0 s.1, rest.1))
