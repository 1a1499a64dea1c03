-- The clauses of a join of rows follow from those of solving in a pool and of reading.
use Rattle.std.proofs.Common.{ℕ, ◌≡◌, ◌↔◌, Option, Some, None, IfSome, IfNone, List, [], ◌++◌, map, refl, ap₂, sym, subst}
use Rattle.psg_terms.specs.Terms.{Term}
use Rattle.psg_terms.specs.Signature.{Signature, HaveSorts}
use Rattle.psg_terms.specs.Sound.{IsSound as IsSoundSignature}
use Rattle.psg_terms.specs.Instances.{substitute, IsGroundInstance, HasSameInstances}
use Rattle.psg_terms.proofs.Separate.{grounding}
use Rattle.psg_terms.proofs.SoundChoices.{choices}
use Rattle.psg_pool.specs.declared.cells.CellId.{CellId}
use Rattle.psg_pool.specs.Bindings.{Kept, IsSound}
use Rattle.psg_unify.specs.Pairs.{Pair, IsAgreeing}
use Rattle.psg_unify.specs.Reading.{Reading, IsReading}
use Rattle.psg_unify.specs.Solved.{IsSolvedIn}
use Rattle.psg_unify.specs.Fitting.{Fits}
use Rattle.psg_unify.proofs.Laws.{read_by, has_reading, fits_empty}

module _ (sig : Signature) (left right : List Term) (pairs : List Pair) (old new : Kept) (cells : List CellId)
    (sound : IsSound new) (s : IsSolvedIn sig left right pairs old new cells) (row : List Term)
    (same : (read : Reading) → IsReading new read → HasSameInstances sig row (map read cells)) where
  pub exact_by_cells : (values : List Term) → IsGroundInstance sig row values ↔ IsAgreeing sig left right pairs values
  exact_by_cells values =
      let read = read_by new s.fits.height s.fits.falls in
      let r = has_reading new s.fits.height s.fits.falls sound in
      let h = same read r in
      let j = s.joined read r values in
      (λ i. j.0 (h.0 values i), λ a. h.1 values (j.1 a))

  pub some_by_cells : IsSoundSignature sig → (values : List Term) × IsAgreeing sig left right pairs values
  some_by_cells is =
      let k = choices sig is in
      let values : List Term = map (substitute (λ p q. k.some p)) row in
      (values, (exact_by_cells values).0 (λ p q. k.some p, grounding sig k, refl))

  pub sorted_by_cells : ((read : Reading) → IsReading new read → (ss : List ℕ) → HaveSorts sig (map read cells) ss → HaveSorts sig row ss)
      → (ls rs : List ℕ) → HaveSorts sig left ls → HaveSorts sig right rs → HaveSorts sig row (ls ++ rs)
  sorted_by_cells h ls rs hl hr =
      let read = read_by new s.fits.height s.fits.falls in
      let r = has_reading new s.fits.height s.fits.falls sound in
      h read r (ls ++ rs) (s.sorted read r ls rs hl hr)

-- what is known of the cells that were given
pub found : {V : Type 0} (items : V → List CellId) (sig : Signature) (left right : List Term) (pairs : List Pair) (old new : Kept) (o : Option V) (v : V) (slice : List CellId)
    → o ≡ Some v → slice ≡ items v → IfSome o (λ w. IsSolvedIn sig left right pairs old new (items w)) → IsSolvedIn sig left right pairs old new slice
found items sig left right pairs old new o v slice e s h =
    subst (IsSolvedIn sig left right pairs old new) (sym s) (subst (λ w. IfSome w (λ x. IsSolvedIn sig left right pairs old new (items x))) e h)

-- an empty pool fits
pub fits_nothing : (sig : Signature) (kept : Kept) → kept.cells ≡ [] → kept.bindings ≡ [] → Fits sig kept
fits_nothing sig kept c b = subst (Fits sig) (sym (ap₂ (λ x y. record { cells = x; bindings = y }) c b)) (fits_empty sig)

-- what is known where there is a row
pub known_where : {V P : Type 0} (o : Option V) (v : V) → o ≡ Some v → IfSome o (λ _. P) → P
known_where {V} {P} o v e h = subst (λ w. IfSome w (λ _. P)) e h

pub none_known : {V P : Type 0} (o : Option V) → o ≡ None → IfNone o P → P
none_known {V} {P} o e h = subst (λ w. IfNone w P) e h
