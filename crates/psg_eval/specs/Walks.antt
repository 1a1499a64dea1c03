-- The columns of keys, where the keys of two lists are made one list.
use Rattle.std.specs.Prelude.{ℕ, zero, suc, ◌≡◌, ◌<◌, ◌≤◌, ◌⊎◌, ◌+◌, ◌-◌, List, [], ◌∷◌, ◌++◌, length}
use Rattle.std.specs.List.{AllByRecursion}
use Rattle.psg_terms.specs.Relations.{IsIn}
use Rattle.psg_grammar.specs.Keys.{Key}
use Rattle.psg_scope.specs.Headers.{AreAscending}
use Rattle.psg_unify.specs.Pairs.{Pair as Columns}
use Rattle.psg_eval.specs.declared.placing.Placed.{Placed}

-- `count` numbers, from `from` on
abbrev pub run : ℕ → ℕ → List ℕ
run from zero = []
run from (suc count) = from ∷ run (suc from) count

-- A and B are the columns of the keys K of a left row and L of a right row, whose columns are numbered from the offset
-- on after the left row's. Each key of M is in K or L or both. Its column is the left one where there is one, and the
-- pairs are the columns of the keys that are in both.
pub data IsWalk (offset : ℕ) : (A B : List ℕ) (K L M : List Key) (pairs : List Columns) (keep : List ℕ) → Type 0 where
  walk_none : IsWalk offset [] [] [] [] [] [] []
  walk_left : {A B : List ℕ} {K L M : List Key} {pairs : List Columns} {keep : List ℕ} (a : ℕ) (k : Key)
      → IsWalk offset A B K L M pairs keep → IsWalk offset (a ∷ A) B (k ∷ K) L (k ∷ M) pairs (a ∷ keep)
  walk_right : {A B : List ℕ} {K L M : List Key} {pairs : List Columns} {keep : List ℕ} (b : ℕ) (k : Key)
      → IsWalk offset A B K L M pairs keep → IsWalk offset A (b ∷ B) K (k ∷ L) (k ∷ M) pairs ((offset + b) ∷ keep)
  walk_both : {A B : List ℕ} {K L M : List Key} {pairs : List Columns} {keep : List ℕ} (a b : ℕ) (k : Key)
      → IsWalk offset A B K L M pairs keep
      → IsWalk offset (a ∷ A) (b ∷ B) (k ∷ K) (k ∷ L) (k ∷ M) ((a, b) ∷ pairs) (a ∷ keep)

-- Two ascending lists of places have each place from the first number on and below the second one, and no other.
pub record FillPlaces (from count : ℕ) (lefts rights : List ℕ) : Type 0 where
  pub lefts_rise : AreAscending lefts
  pub rights_rise : AreAscending rights
  pub lefts_within : AllByRecursion (λ p. (from ≤ p) × (p < count)) lefts
  pub rights_within : AllByRecursion (λ p. (from ≤ p) × (p < count)) rights
  pub each : (p : ℕ) → from ≤ p → p < count → IsIn p lefts ⊎ IsIn p rights

-- one more key
pub record GrowsBy (old new : Placed) (pairs : List Columns) (column left right : ℕ) : Type 0 where
  pub columns : new.columns.items ≡ old.columns.items ++ column ∷ []
  pub pairs_are : new.pairs.items ≡ old.pairs.items ++ pairs
  pub lefts : new.lefts ≡ old.lefts + left
  pub rights : new.rights ≡ old.rights + right

-- The pairs and the kept columns of a row with `seen` seen and `wanted` wanted values and the keys K, and of a child's
-- row with `more` seen values and the keys L. The first wanted value is the child's value.
pub record IsLayout (seen wanted more : ℕ) (K L M : List Key) (pairs : List Columns) (keep : List ℕ) : Type 0 where
  pub on_keys : List Columns
  pub of_keys : List ℕ
  pub walk : IsWalk (1 + seen + wanted + length K) (run (1 + seen + wanted) (length K))
      (run (1 + more) (length L)) K L M on_keys of_keys
  pub pairs_are : pairs ≡ (1 + seen, 0) ∷ on_keys
  pub keep_is : keep ≡ run 0 (1 + seen) ++ run (1 + seen + wanted + length K + 1) more
      ++ run (1 + seen + 1) (wanted - 1) ++ of_keys
