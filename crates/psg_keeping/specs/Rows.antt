-- The table of the lengths of longest common subsequences.
use Rattle.std.specs.Prelude.{ℕ, ◌≡◌, ◌≤◌, ◌+◌, ◌-◌, List, [], ◌∷◌, length, drop, get_or}
use Rattle.psg_lexis.specs.declared.token.Token.{Token}
use Rattle.psg_keeping.specs.declared.pairing.Step.{Step}
use Rattle.psg_keeping.specs.declared.pairing.Step.TheVariants as steps
use Rattle.psg_keeping.specs.Pairing.{ArePairs, pairs}

-- the last elements of the list, so many of them
abbrev pub end_of : {X : Type 0} → ℕ → List X → List X
end_of count xs = drop (length xs - count) xs

-- so many tokens of the lists can be paired, and no more
pub record IsBest (old new : List Token) (count : ℕ) : Type 0 where
  pub steps : List Step
  pub are : ArePairs old new steps
  pub counted : pairs steps ≡ count
  pub most : (other : List Step) → ArePairs old new other → pairs other ≤ count

-- the numbers for the list and each end of the new one, the shortest first
pub record IsRow (old new : List Token) (row : List ℕ) : Type 0 where
  pub size : length row ≡ length new + 1
  pub best : (count : ℕ) → count ≤ length new → IsBest old (end_of count new) (get_or row count 0)

-- the rows for the ends of the old list with at most so many tokens, the shortest first
pub record AreRows (old new : List Token) (ends : ℕ) (rows : List (List ℕ)) : Type 0 where
  pub size : length rows ≡ ends + 1
  pub row : (count : ℕ) → count ≤ ends → IsRow (end_of count old) new (get_or rows count [])

abbrev pub value_at : List (List ℕ) → ℕ → ℕ → ℕ
value_at rows row place = get_or (get_or rows row []) place 0

-- the step begins a longest pairing of the lists with these tokens in front
abbrev pub IsNext : Token → Token → List Token → List Token → Step → Type 0
IsNext t other xs ys steps.Both = (t ≡ other) × ((n : ℕ) → IsBest xs ys n → IsBest (t ∷ xs) (other ∷ ys) (n + 1))
IsNext t other xs ys steps.Old = (n : ℕ) → IsBest xs (other ∷ ys) n → IsBest (t ∷ xs) (other ∷ ys) n
IsNext t other xs ys steps.New = (n : ℕ) → IsBest (t ∷ xs) ys n → IsBest (t ∷ xs) (other ∷ ys) n

-- how many tokens of the old list, and of the new one, the step takes
abbrev pub old_in : Step → ℕ
old_in steps.Both = 1
old_in steps.Old = 1
old_in steps.New = 0

abbrev pub new_in : Step → ℕ
new_in steps.Both = 1
new_in steps.Old = 0
new_in steps.New = 1
