-- The places of a tree that can't be kept with those before them.
use Rattle.std.specs.Prelude.{ℕ, ◌≡◌, ◌<◌, ◌≤◌, ◌+◌, ◌↔◌, ◌⊎◌, ◌==◌, ◌&&◌, nat_lt, Bool, true, false}
use Rattle.std.specs.Prelude.{cond, List, [], ◌∷◌, length, take, Option, Some, None, slice_get}
use Rattle.psg_terms.specs.Names.{Name}
use Rattle.psg_grammar.specs.declared.types.Definition.{Definition}
use Rattle.psg_grammar.specs.Fragments.{Fragment}
use Rattle.psg_places.specs.NewNames.{AreNew}
use Rattle.psg_places.specs.Places.{place_count}
use Rattle.psg_places.specs.Opened.{opened}

-- the places before n that are kept, and n itself; all after it are opened
abbrev pub up_to : (ℕ → Bool) → ℕ → ℕ → Bool
up_to kept n m = cond (nat_lt m n) (kept m) (m == n)

-- the kept ones of the first n places
abbrev pub kept_of_first : (ℕ → Bool) → ℕ → ℕ → Bool
kept_of_first kept n m = nat_lt m n && kept m

-- nothing is kept
abbrev pub none_kept : ℕ → Bool
none_kept n = false

-- `IsGood` says which trees are good, such as those that have a legal completion.
module _ (IsGood : Fragment → Type 0) (def : Definition) (fresh : ℕ → Name) (f : Fragment) where
  -- the tree of the places before n that are kept, and n
  abbrev pub front : (ℕ → Bool) → ℕ → Fragment
  front kept n = opened def (up_to kept n) fresh f

  -- A place of the first `count` is kept exactly if the tree of the kept places before it and itself is good.
  abbrev pub IsBlameUpTo : ℕ → (ℕ → Bool) → Type 0
  IsBlameUpTo count kept = (n : ℕ) → n < count → (kept n ≡ true) ↔ IsGood (front kept n)

  -- This is said of all places.
  abbrev pub IsBlameBy : (ℕ → Bool) → Type 0
  IsBlameBy kept = IsBlameUpTo (place_count def f) kept

-- ---- what is kept, as a list of answers, one for each place in order

abbrev pub is_some_true : Option Bool → Bool
is_some_true None = false
is_some_true (Some b) = b

-- Whether the place is kept. The places after the last answer are not.
abbrev pub kept_in : List Bool → ℕ → Bool
kept_in kept n = is_some_true (slice_get kept n)

-- how many places are blamed: those that are not kept
abbrev pub blamed_in : List Bool → ℕ
blamed_in [] = 0
blamed_in (b ∷ more) = cond b 0 1 + blamed_in more

-- That many places are blamed at most: all after the last of them are opened.
abbrev pub most_blamed : ℕ
most_blamed = 100

module _ (IsGood : Fragment → Type 0) (def : Definition) (fresh : ℕ → Name) (f : Fragment) where
  -- The answers for the first places, if the tree with nothing kept is good. Before each of them fewer than a hundred
  -- places are blamed, so none is after the hundredth blamed place.
  pub record AreAnswers (kept : List Bool) : Type 0 where
    pub nothing : IsGood (opened def none_kept fresh f)
    pub blame : IsBlameUpTo IsGood def fresh f (length kept) (kept_in kept)
    pub inside : length kept ≤ place_count def f
    pub fewer : (n : ℕ) → n < length kept → blamed_in (take n kept) < most_blamed

  -- the answers for all places, or up to the hundredth blamed one
  pub record AreAllAnswers (kept : List Bool) : Type 0 where
    pub answers : AreAnswers kept
    pub all : (length kept ≡ place_count def f) ⊎ (blamed_in kept ≡ most_blamed)

-- ---- what laws of the crate state

module _ (IsGood : Fragment → Type 0) (def : Definition) (f : Fragment) where
  module _ (fresh : ℕ → Name) where
    -- If all blamed places are opened, the tree is good, if it is good with nothing kept.
    abbrev pub Leaves : Type 0
    Leaves = IsGood (opened def none_kept fresh f) → (kept : ℕ → Bool) → IsBlameBy IsGood def fresh f kept
        → IsGood (opened def (kept_of_first kept (place_count def f)) fresh f)

    -- A blamed place can't be there together with the kept ones before it, even if all after it is opened.
    abbrev pub IsNeeded : Type 0
    IsNeeded = (kept : ℕ → Bool) → IsBlameBy IsGood def fresh f kept → (n : ℕ) → n < place_count def f
        → kept n ≡ false → IsGood (front IsGood def fresh f kept n) → ⊥

    -- There is one list of all answers.
    abbrev pub IsOne : Type 0
    IsOne = (one two : List Bool) → AreAllAnswers IsGood def fresh f one → AreAllAnswers IsGood def fresh f two
        → one ≡ two

    -- A good tree is still good if all its places from n on are opened.
    abbrev pub IsFalling : Type 0
    IsFalling = (kept : ℕ → Bool) (n : ℕ) → IsGood (opened def kept fresh f)
        → IsGood (opened def (kept_of_first kept n) fresh f)

    -- From that: if the tree is good, no place is blamed.
    abbrev pub KeepsAll : Type 0
    KeepsAll = IsFalling → IsGood f → (kept : ℕ → Bool) → IsBlameBy IsGood def fresh f kept
        → (n : ℕ) → n < place_count def f → kept n ≡ true

    -- No place is blamed exactly if the tree is good.
    abbrev pub IsNoneWhereGood : Type 0
    IsNoneWhereGood = (kept : List Bool) → AreAllAnswers IsGood def fresh f kept → (blamed_in kept ≡ 0) ↔ IsGood f

    -- If no place is blamed, the tree is good.
    abbrev pub IsGoodIfKept : Type 0
    IsGoodIfKept = IsGood (opened def none_kept fresh f) → (kept : ℕ → Bool) → IsBlameBy IsGood def fresh f kept
        → ((n : ℕ) → n < place_count def f → kept n ≡ true) → IsGood f

  -- Whether the tree of some kept places is good does not depend on the choice of new names.
  abbrev pub IsForAllNames : Type 0
  IsForAllNames = (one two : ℕ → Name) → AreNew def f one → AreNew def f two → (kept : ℕ → Bool)
      → IsGood (opened def kept one f) → IsGood (opened def kept two f)

-- All places kept give the tree itself.
abbrev pub IsWhole : Definition → Type 0
IsWhole def = (fresh : ℕ → Name) (f : Fragment) → opened def (λ n. true) fresh f ≡ f

-- The tree depends only on what is said of its places.
abbrev pub IsOfPlaces : Definition → Type 0
IsOfPlaces def = (f : Fragment) (one two : ℕ → Bool) (old new : ℕ → Name)
    → ((n : ℕ) → n < place_count def f → one n ≡ two n) → ((n : ℕ) → n < place_count def f → old n ≡ new n)
    → opened def one old f ≡ opened def two new f
