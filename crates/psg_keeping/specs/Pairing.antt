-- Which tokens of two lists are paired.
use Rattle.std.specs.Prelude.{ℕ, ◌≡◌, ◌≢◌, ◌≤◌, ◌<◌, ◌+◌, ◌*◌, List, [], ◌∷◌, ◌++◌, length, replicate}
use Rattle.psg_lexis.specs.declared.token.Token.{Token}
use Rattle.psg_keeping.specs.declared.pairing.Step.{Step}
use Rattle.psg_keeping.specs.declared.pairing.Step.TheVariants as steps

-- The steps go along both lists to their ends, and pair only tokens that are the same. So the paired tokens are a
-- common subsequence of the lists.
pub data ArePairs : List Token → List Token → List Step → Type 0 where
  ends : ArePairs [] [] []
  both : (t : Token) (old new : List Token) (more : List Step) → ArePairs old new more
      → ArePairs (t ∷ old) (t ∷ new) (steps.Both ∷ more)
  old_alone : (t : Token) (old new : List Token) (more : List Step) → ArePairs old new more
      → ArePairs (t ∷ old) new (steps.Old ∷ more)
  new_alone : (t : Token) (old new : List Token) (more : List Step) → ArePairs old new more
      → ArePairs old (t ∷ new) (steps.New ∷ more)

-- how many tokens are paired
abbrev pub pairs : List Step → ℕ
pairs [] = 0
pairs (steps.Both ∷ more) = 1 + pairs more
pairs (steps.Old ∷ more) = pairs more
pairs (steps.New ∷ more) = pairs more

-- no other steps pair more tokens
abbrev pub IsMost : List Token → List Token → List Step → Type 0
IsMost old new own = (other : List Step) → ArePairs old new other → pairs other ≤ pairs own

-- the lists do not begin with the same token
abbrev pub BeginApart : List Token → List Token → Type 0
BeginApart [] new = Unit {0}
BeginApart (t ∷ old) [] = Unit {0}
BeginApart (t ∷ old) (other ∷ new) = t ≢ other

-- the most pairs of a token of each list that are looked at
abbrev pub most_cells : ℕ
most_cells = 4000000

-- no token is the last of both lists
abbrev pub EndApart : List Token → List Token → Type 0
EndApart old new = (before rest : List Token) (t : Token) → old ≡ before ++ t ∷ [] → new ≡ rest ++ t ∷ [] → ⊥

-- the steps that pair no token of the lists with so many tokens
abbrev pub alone : ℕ → ℕ → List Step
alone old new = replicate old steps.Old ++ replicate new steps.New

-- Without all tokens that are the same at the beginning, and then all that are the same at the end, the lists have more
-- pairs of a token of each than are looked at. Then the tokens at the beginning and at the end are paired, and no others.
pub record IsFar (old new : List Token) (taken : List Step) : Type 0 where
  pub front : List Token
  pub own : List Token
  pub other : List Token
  pub back : List Token
  pub old_is : old ≡ front ++ (own ++ back)
  pub new_is : new ≡ front ++ (other ++ back)
  pub apart : BeginApart own other
  pub apart_at_end : EndApart own other
  pub far : most_cells < length own * length other
  pub taken_are : taken ≡ replicate (length front) steps.Both ++ (alone (length own) (length other)
      ++ replicate (length back) steps.Both)
