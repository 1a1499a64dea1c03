-- Some columns of a join of rows, read out of a solved pool.
use Rattle.std.proofs.Common.{ℕ, ◌≡◌, ◌+◌, ◌<◌, ◌↔◌, Option, Some, None, All, List, [], ◌∷◌, ◌++◌, map, length, slice_get, zero, suc, refl, ap, ap₂, sym, ◌∙◌, subst, arith, length-append}
use Rattle.std.specs.Option.{option_map}
use Rattle.std.proofs.lemmas.Option.{slice_get-map}
use Rattle.std.proofs.lemmas.List.Elements.{All-cons, All-head, All-tail}
use Rattle.psg_terms.specs.Terms.{Term}
use Rattle.psg_terms.specs.Signature.{Signature, HaveSorts}
use Rattle.psg_terms.specs.Instances.{IsGroundInstance, HasSameInstances}
use Rattle.psg_pool.specs.declared.cells.CellId.{CellId}
use Rattle.psg_pool.specs.Bindings.{Kept, IsSound}
use Rattle.psg_unify.specs.Pairs.{Pair}
use Rattle.psg_unify.specs.Columns.{pick, picked, Joins}
use Rattle.psg_unify.specs.Reading.{Reading, IsReading}
use Rattle.psg_unify.specs.Solved.{IsSolvedIn}
use Rattle.psg_unify.proofs.Laws.{read_by, has_reading}
use Rattle.psg_unify.proofs.Picking.{picked_ground}

map-pick : {X Y : Type 0} (f : X → Y) (o : Option X) (rest : List X) → map f (pick o rest) ≡ pick (option_map f o) (map f rest)
map-pick f None rest = refl
map-pick f (Some x) rest = refl

pub picked-map : {X Y : Type 0} (f : X → Y) (xs : List X) (keep : List ℕ) → map f (picked xs keep) ≡ picked (map f xs) keep
picked-map f xs [] = refl
picked-map f xs (k ∷ keep) = map-pick f (slice_get xs k) (picked xs keep) ∙ ap₂ pick (sym (slice_get-map f xs k)) (picked-map f xs keep)

pick-all : {X : Type 0} (P : X → Type 0) (xs : List X) (k : ℕ) (rest : List X) → All P xs → All P rest → All P (pick (slice_get xs k) rest)
pick-all P [] k rest h r = r
pick-all P (x ∷ xs) zero rest h r = All-cons P x rest (All-head P x xs h) r
pick-all P (x ∷ xs) (suc k) rest h r = pick-all P xs k rest (All-tail P x xs h) r

pub picked-all : {X : Type 0} (P : X → Type 0) (xs : List X) (keep : List ℕ) → All P xs → All P (picked xs keep)
picked-all P xs [] h = λ i d l. absurd (omega (arith, l))
picked-all P xs (k ∷ keep) h = pick-all P xs k (picked xs keep) h (picked-all P xs keep h)

module _ (sig : Signature) (left right : List Term) (pairs : List Pair) (old new : Kept) (cells : List CellId) (s : IsSolvedIn sig left right pairs old new cells) where
  -- there is a cell for each column
  pub solved_count : length cells ≡ length left + length right
  solved_count = let e = ap (λ (c : List CellId). length c) s.columns in let a = length-append s.lefts s.rights in omega (arith, e, a, s.left_count, s.right_count)

  pub within_cells : (keep : List ℕ) → All (λ k. k < length left + length right) keep → All (λ k. k < length cells) keep
  within_cells keep h = subst (λ n. All (λ k. k < n) keep) (sym solved_count) h

  module _ (sound : IsSound new) (keep : List ℕ) (row : List Term)
      (same : (read : Reading) → IsReading new read → HasSameInstances sig row (picked (map read cells) keep)) where
    pub exact_kept : (x : List Term) → IsGroundInstance sig row x ↔ Joins sig pairs keep left right x
    exact_kept x =
        let read = read_by new s.fits.height s.fits.falls in
        let r = has_reading new s.fits.height s.fits.falls sound in
        let h = same read r in
        let p = picked_ground sig (map read cells) keep x in (
          λ i. let (full, g, e) = p.0 (h.0 x i) in (full, (s.joined read r full).0 g, e),
          λ (full, a, e). h.1 x (p.1 (full, (s.joined read r full).1 a, e)),
        )

    pub sorted_kept : ((read : Reading) → IsReading new read → (ss : List ℕ) → HaveSorts sig (map read cells) ss → HaveSorts sig row (picked ss keep))
        → (ls rs : List ℕ) → HaveSorts sig left ls → HaveSorts sig right rs → HaveSorts sig row (picked (ls ++ rs) keep)
    sorted_kept h ls rs hl hr =
        let read = read_by new s.fits.height s.fits.falls in
        let r = has_reading new s.fits.height s.fits.falls sound in
        h read r (ls ++ rs) (s.sorted read r ls rs hl hr)
