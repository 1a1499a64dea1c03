-- Sums over a list whose members have sources in another one, and over columns of a row.
use Rattle.std.proofs.Common.{◌≡◌, ℕ, ◌+◌, ◌<◌, ◌≤◌, ◌⊎◌, inl, inr, zero, suc, All, List, [], ◌∷◌, ◌++◌, map, length, refl, ap, ◌∙◌, sym, subst, Option, Some, None, slice_get, arith}
use Rattle.std.specs.Prelude.{sum_by}
use Rattle.std.proofs.lemmas.List.Elements.{All-get_or}
use Rattle.std.proofs.lemmas.List.Sums.{sum_by-cons}
use Rattle.psg_terms.proofs.Lists.{sum_by-around, in_at}
use Rattle.psg_terms.specs.Relations.{IsIn, first, later, IsOnce}
use Rattle.psg_relation.specs.Choices.{pick, picked}
use Rattle.psg_relation.proofs.Members.{around, beside, in-contains, in-map}
use Rattle.psg_relation.proofs.Weights.{sum-some}
use Rattle.psg_relation.specs.Fewer.{KeptOnce}

-- where each member has a source of its own that weighs as much, the members together weigh no more than the sources
pub sum_from : {X Y : Type 0} (f : X → ℕ) (g : Y → ℕ) (From : X → Y → Type 0)
    → ((x z : X) (y : Y) → From x y → From z y → x ≡ z) → ((x : X) (y : Y) → From x y → f x ≤ g y)
    → (xs : List X) (ys : List Y) → IsOnce xs → ((x : X) → IsIn x xs → (y : Y) × IsIn y ys × From x y) → sum_by f xs ≤ sum_by g ys
sum_from f g From same most [] ys o h = omega arith
sum_from f g From same most (x ∷ xs) ys (a, o) h =
    let (y, i, from) = h x first in
    let (front, back, e) = around y ys i in
    let ih = sum_from f g From same most xs (front ++ back) o (λ z j.
    let (w, k, other) = h z (later j) in
    elim (beside w y front back (subst (IsIn w) e k)) [
      | inl b ↦ (w, b, other)
      | inr d ↦ absurd (a (subst (λ v. IsIn v xs) (same z x y (subst (From z) d other) from) j))
    ]) in
    let p = sum_by-cons f x xs in
    let q = ap (sum_by g) e ∙ sum_by-around g y front back in
    let l = most x y from in
    omega arith

-- ---- the columns of a row

abbrev measure : {X : Type 0} → (X → ℕ) → Option X → ℕ
measure f None = 0
measure f (Some x) = f x

abbrev places : {X : Type 0} → List X → List ℕ
places [] = []
places (x ∷ xs) = 0 ∷ map suc (places xs)

sum_map : {X Y : Type 0} (f : Y → ℕ) (g : X → Y) (xs : List X) → sum_by f (map g xs) ≡ sum_by (λ x. f (g x)) xs
sum_map f g [] = refl
sum_map f g (x ∷ xs) = sum_by-cons f (g x) (map g xs) ∙ ap (λ n. f (g x) + n) (sum_map f g xs) ∙ sym (sum_by-cons (λ y. f (g y)) x xs)

sum_places : {X : Type 0} (f : X → ℕ) (xs : List X) → sum_by (λ k. measure f (slice_get xs k)) (places xs) ≡ sum_by f xs
sum_places f [] = refl
sum_places f (x ∷ xs) =
    sum_by-cons (λ k. measure f (slice_get (x ∷ xs) k)) 0 (map suc (places xs))
    ∙ ap (λ n. f x + n) (sum_map (λ k. measure f (slice_get (x ∷ xs) k)) suc (places xs) ∙ sum_places f xs)
    ∙ sym (sum_by-cons f x xs)

in_places : {X : Type 0} (xs : List X) (k : ℕ) → k < length xs → IsIn k (places xs)
in_places [] k l = absurd (omega arith)
in_places (x ∷ xs) zero l = first
in_places (x ∷ xs) (suc k) l = later (in-map suc k (places xs) (in_places xs k (omega arith)))

sum_pick : {X : Type 0} (f : X → ℕ) (o : Option X) (rest : List X) → sum_by f (pick o rest) ≡ measure f o + sum_by f rest
sum_pick f None rest = omega arith
sum_pick f (Some x) rest = sum_by-cons f x rest

sum_picked : {X : Type 0} (f : X → ℕ) (xs : List X) (keep : List ℕ) → sum_by f (picked xs keep) ≡ sum_by (λ k. measure f (slice_get xs k)) keep
sum_picked f xs [] = refl
sum_picked f xs (k ∷ keep) =
    sum_pick f (slice_get xs k) (picked xs keep) ∙ ap (λ n. measure f (slice_get xs k) + n) (sum_picked f xs keep)
    ∙ sym (sum_by-cons (λ m. measure f (slice_get xs m)) k keep)

in_place : {X : Type 0} (x : X) (xs : List X) → IsIn x xs → (k : ℕ) × (slice_get xs k ≡ Some x)
in_place x [] h = elim h [ ]
in_place x (y ∷ xs) first = (0, refl)
in_place x (y ∷ xs) (later h) = let (k, e) = in_place x xs h in (suc k, e)

once_kept : (keep : List ℕ) → KeptOnce keep → IsOnce keep
once_kept [] h = tt
once_kept (k ∷ keep) h = (
  λ i. let (n, e) = in_place k keep i in let same = h 0 (suc n) k refl e in absurd (omega (arith, same)),
  once_kept keep (λ i j m a b. let same = h (suc i) (suc j) m a b in omega (arith, same)),
)

all_in : (P : ℕ → Type 0) (keep : List ℕ) → All P keep → (k : ℕ) → IsIn k keep → P k
all_in P keep all k i = let (n, l, e) = in-contains k keep i in subst P e (All-get_or P keep n k l all)

-- columns that are there, each kept once, weigh no more than the row
pub sum_kept : {X : Type 0} (f : X → ℕ) (row : List X) (keep : List ℕ) → All (λ k. k < length row) keep → KeptOnce keep → sum_by f (picked row keep) ≤ sum_by f row
sum_kept f row keep there once =
    let kept = sum_picked f row keep in
    let all = sum_places f row in
    let most = sum-some (λ k. measure f (slice_get row k)) keep (places row) (once_kept keep once)
    (λ k i. in_places row k (all_in (λ m. m < length row) keep there k i)) in
    omega arith

in_pick : {X : Type 0} (x : X) (o : Option X) (rest : List X) → IsIn x (pick o rest) → (o ≡ Some x) ⊎ IsIn x rest
in_pick x None rest h = inr h
in_pick x (Some y) rest first = inl refl
in_pick x (Some y) rest (later h) = inr h

-- a column that is kept is one of the row
pub in_picked : {X : Type 0} (x : X) (row : List X) (keep : List ℕ) → IsIn x (picked row keep) → IsIn x row
in_picked x row [] h = elim h [ ]
in_picked x row (k ∷ keep) h = elim (in_pick x (slice_get row k) (picked row keep) h) [
  | inl e ↦ in_at row k x e
  | inr i ↦ in_picked x row keep i
]
