-- A constructor cell over cells of its arguments' sorts keeps a pool fitting.
use Rattle.std.proofs.Common.{◌≡◌, ◌⊎◌, inl, inr, ℕ, zero, suc, ◌<◌, ◌==◌, cond, max, Some, List, [], ◌∷◌, ◌++◌, map, length, slice_get, All, refl, ap, ap₂, sym, ◌∙◌, subst, arith, append-nil}
use Rattle.std.proofs.lemmas.Bool.{eqb-true, eqb-false, cases_Bool}
use Rattle.std.proofs.lemmas.Option.{slice_get_within}
use Rattle.std.proofs.lemmas.List.Elements.{All-weaker, All-cons, All-head, All-tail}
use Rattle.psg_terms.proofs.OneRelation.{takes_once}
use Rattle.psg_terms.specs.Terms.{symbol, applied}
use Rattle.psg_terms.specs.Signature.{Signature, HasSort, HaveSorts}
use Rattle.psg_terms.proofs.Applied.{applied-sorts}
use Rattle.psg_pool.specs.declared.cells.CellId.{CellId}
use Rattle.psg_pool.specs.Cells.{Put, free, constructor, IsAmong, arguments_in, arguments_of}
use Rattle.psg_pool.specs.Bindings.{Kept, target_of, IsSound, IsOver}
use Rattle.psg_pool.proofs.Places.{some_or_none}
use Rattle.psg_unify.specs.Reading.{Reading, IsReading}
use Rattle.psg_unify.specs.Fitting.{Fits, IsPutOf, IsOfOneSort, sort_at, sort_in}
use Rattle.psg_unify.proofs.Laws.{with_cells, over_at, All-both, fits_more, one_sort-append}
use Rattle.psg_unify.proofs.SortsRead.{has_a_sort, cell_sorts}

-- the arguments of the cell that was put last are its own, and those of the others as they were
pub arguments_either : (cells : List Put) (p : Put) (n : ℕ)
    → ((n ≡ length cells) × (arguments_in (slice_get (cells ++ p ∷ []) n) ≡ arguments_in (Some p))) ⊎ (arguments_in (slice_get (cells ++ p ∷ []) n) ≡ arguments_in (slice_get cells n))
arguments_either [] p zero = inl (refl, refl)
arguments_either [] p (suc n) = inr refl
arguments_either (q ∷ cells) p zero = inr refl
arguments_either (q ∷ cells) p (suc n) = elim (arguments_either cells p n) [
  | inl h ↦ inl (ap suc h.0, h.1)
  | inr h ↦ inr h
]

-- a cell is there, or has no arguments
within_or_none : (cells : List Put) (id : CellId) → (id.0 < length cells) ⊎ (arguments_of cells id ≡ [])
within_or_none cells id = elim (some_or_none (slice_get cells id.0)) [
  | inl n ↦ inr (ap arguments_in n)
  | inr s ↦ inl (slice_get_within cells id.0 s.0 s.1)
]

abbrev rest_of : List ℕ → List ℕ
rest_of [] = []
rest_of (x ∷ xs) = xs

-- a number above those of all cells
abbrev top_of : (CellId → ℕ) → List CellId → ℕ
top_of h [] = 0
top_of h (x ∷ xs) = max (suc (h x)) (top_of h xs)

below_top : (h : CellId → ℕ) (xs : List CellId) → All (λ x. h x < top_of h xs) xs
below_top h [] = λ k d l. absurd (omega (arith, l))
below_top h (x ∷ xs) =
    All-cons (λ y. h y < top_of h (x ∷ xs)) x xs (omega arith)
    (All-weaker (λ y. h y < top_of h xs) (λ y. h y < top_of h (x ∷ xs)) (λ y l. omega (arith, l)) xs (below_top h xs))

-- the heights with another one for one cell
abbrev raised : (CellId → ℕ) → ℕ → ℕ → CellId → ℕ
raised h at top id = cond (id.0 == at) top (h id)

raised_other : (h : CellId → ℕ) (at top : ℕ) (id : CellId) → id.0 < at → raised h at top id ≡ h id
raised_other h at top id l = elim (cases_Bool (id.0 == at)) [
  | inl t ↦ let e = eqb-true id.0 at t in absurd (omega (arith, e, l))
  | inr f ↦ ap (λ b. cond b top (h id)) f
]

raised_here : (h : CellId → ℕ) (at top : ℕ) (id : CellId) → id.0 ≡ at → raised h at top id ≡ top
raised_here h at top id e = elim (cases_Bool (id.0 == at)) [
  | inl t ↦ ap (λ b. cond b top (h id)) t
  | inr f ↦ absurd (eqb-false id.0 at f e)
]

raised_at_least : (h : CellId → ℕ) (at top : ℕ) (id : CellId) (n : ℕ) → (id.0 ≡ at → n < top) → n < h id → n < raised h at top id
raised_at_least h at top id n k l = elim (cases_Bool (id.0 == at)) [
  | inl t ↦ let e = ap (λ b. cond b top (h id)) t in let m = k (eqb-true id.0 at t) in omega (arith, e, m)
  | inr f ↦ let e = ap (λ b. cond b top (h id)) f in omega (arith, e, l)
]

-- a fitting pool with one more constructor cell fits
pub fits_con : (sig : Signature) (kept : Kept) (c : ℕ) (args : List CellId) → IsSound kept → Fits sig kept → IsPutOf sig kept.cells (constructor c args) → All (IsAmong kept.cells) args
    → Fits sig (with_cells kept (kept.cells ++ constructor c args ∷ []))
fits_con sig kept c args sound f p among =
    fits_more sig kept (constructor c args) (raised f.height (length kept.cells) (top_of f.height args)) f p
    (All-both (IsOver kept.cells) (IsOfOneSort sig kept.cells) (IsOfOneSort sig (kept.cells ++ constructor c args ∷ []))
    (λ b o e. one_sort-append sig kept.cells (constructor c args ∷ []) b o.0.0 (ap (sort_in sig) o.0.1) e) kept.bindings sound.over f.sorts)
    (record { bound = bound; con = con }) where
      bound : (id to : CellId) → target_of kept.bindings id ≡ Some to → raised f.height (length kept.cells) (top_of f.height args) to < raised f.height (length kept.cells) (top_of f.height args) id
      bound id to e =
          let o = over_at kept.cells kept.bindings id to sound.over e in
          let i = raised_other f.height (length kept.cells) (top_of f.height args) id (slice_get_within kept.cells id.0 (free o.0.0) o.0.1) in
          let t = raised_other f.height (length kept.cells) (top_of f.height args) to o.1 in
          let l = f.falls.bound id to e in
          omega (arith, i, t, l)

      con : (id : CellId) → All (λ a. raised f.height (length kept.cells) (top_of f.height args) a < raised f.height (length kept.cells) (top_of f.height args) id) (arguments_of (kept.cells ++ constructor c args ∷ []) id)
      con id = elim (arguments_either kept.cells (constructor c args) id.0) [
        | inl h ↦ subst (All (λ a. raised f.height (length kept.cells) (top_of f.height args) a < raised f.height (length kept.cells) (top_of f.height args) id)) (sym h.1)
            (All-both (IsAmong kept.cells) (λ a. f.height a < top_of f.height args) (λ a. raised f.height (length kept.cells) (top_of f.height args) a < raised f.height (length kept.cells) (top_of f.height args) id)
            (λ a i l.
            let here = raised_here f.height (length kept.cells) (top_of f.height args) id h.0 in
            let other = raised_other f.height (length kept.cells) (top_of f.height args) a i in
            omega (arith, here, other, l)) args among (below_top f.height args))
        | inr h ↦ subst (All (λ a. raised f.height (length kept.cells) (top_of f.height args) a < raised f.height (length kept.cells) (top_of f.height args) id)) (sym h)
            (older id)
      ] where
        older : (id : CellId) → All (λ a. raised f.height (length kept.cells) (top_of f.height args) a < raised f.height (length kept.cells) (top_of f.height args) id) (arguments_of kept.cells id)
        older id = elim (within_or_none kept.cells id) [
          | inl l ↦ All-both (λ a. a.0 < id.0) (λ a. f.height a < f.height id) (λ a. raised f.height (length kept.cells) (top_of f.height args) a < raised f.height (length kept.cells) (top_of f.height args) id)
              (λ a m k.
              let i = raised_other f.height (length kept.cells) (top_of f.height args) id l in
              let o = raised_other f.height (length kept.cells) (top_of f.height args) a (omega (arith, m, l)) in
              omega (arith, i, o, k)) (arguments_of kept.cells id) (sound.arguments id) (f.falls.con id)
          | inr n ↦ subst (All (λ a. raised f.height (length kept.cells) (top_of f.height args) a < raised f.height (length kept.cells) (top_of f.height args) id)) (sym n) (λ k d l. absurd (omega (arith, l)))
        ]

-- cells that read as a row of sorts have these sorts
module _ (sig : Signature) (kept : Kept) (sound : IsSound kept) (fits : Fits sig kept) (read : Reading) (r : IsReading kept read) where
  pub sorts_back : (ids : List CellId) (ss : List ℕ) → All (IsAmong kept.cells) ids → HaveSorts sig (map read ids) ss → map (sort_at sig kept.cells) ids ≡ map (λ (n : ℕ). Some n) ss
  sorts_back [] [] i h = refl
  sorts_back [] (s ∷ ss) i h = absurd h
  sorts_back (x ∷ ids) [] i h = absurd h
  sorts_back (x ∷ ids) (s ∷ ss) i (h, hs) =
      let l = All-head (IsAmong kept.cells) x ids i in
      let own = has_a_sort sig kept.cells x fits.puts l in
      let same : own.0 ≡ s = (takes_once sig (read x) [] [] own.0 s (cell_sorts sig kept sound fits read r x l own.0 own.1) h).1 in
      ap₂ (λ y ys. y ∷ ys) (own.1 ∙ ap (λ (n : ℕ). Some n) same) (sorts_back ids ss (All-tail (IsAmong kept.cells) x ids i) hs)

  -- where the constructor over what the cells read as has a sort, a constructor cell over them fits
  pub put_of_sorted : (c : ℕ) (args : List CellId) (s : ℕ) → All (IsAmong kept.cells) args → HasSort sig (applied (symbol c) (map read args)) s → IsPutOf sig kept.cells (constructor c args)
  put_of_sorted c args s i h =
      let k = applied-sorts sig (symbol c) (map read args) [] s h in
      (k.1.0, k.1.1, sorts_back args k.0 i k.2 ∙ ap (map (λ (n : ℕ). Some n)) (sym (append-nil k.0) ∙ sym k.1.2))
