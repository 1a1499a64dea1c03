-- Names for places that are not kept.
use Rattle.std.specs.Prelude.{ℕ, ◌≡◌, ◌⊎◌, ◌+◌, ◌<◌, ◌≤◌, Bool, false, cond, List, [], ◌∷◌, ◌++◌, length, decimal}
use Rattle.std.specs.Prelude.{nat_eq}
use Rattle.std.specs.List.{AllByRecursion, starts_with}
use Rattle.psg_terms.specs.Names.{Name, is_among}
use Rattle.psg_grammar.specs.declared.types.Definition.{Definition}
use Rattle.psg_grammar.specs.Fragments.{Fragment}
use Rattle.psg_grammar.specs.WellFormed.{IsName, fixed_words}
use Rattle.psg_renaming.specs.Occurring.{occurring}
use Rattle.psg_places.specs.Places.{place_count}

-- For each place of the tree there is a name of the language, which the tree does not have, and no two are the same.
pub record AreNew (def : Definition) (f : Fragment) (fresh : ℕ → Name) : Type 0 where
  pub names : (n : ℕ) → n < place_count def f → IsName def (fresh n)
  pub new : (n : ℕ) → n < place_count def f → is_among (occurring f) (fresh n) ≡ false
  pub apart : (n m : ℕ) → n < place_count def f → m < place_count def f → fresh n ≡ fresh m → n ≡ m

-- ---- the names that the search takes

abbrev pub begins_with : Name → Name → Bool
begins_with front name = starts_with nat_eq name front

-- how many of the names begin with the front
abbrev pub beginning : Name → List Name → ℕ
beginning front [] = 0
beginning front (n ∷ ns) = cond (begins_with front n) 1 0 + beginning front ns

-- the letters a and b
abbrev pub IsLetter : ℕ → Type 0
IsLetter c = (c ≡ 97) ⊎ (c ≡ 98)

-- at most 64 letters with which none of the names begins
pub record IsFree (names : List Name) (front : Name) : Type 0 where
  pub none : beginning front names ≡ 0
  pub letters : AllByRecursion IsLetter front
  pub short : length front ≤ 64

-- with which no name of the tree begins and no fixed word
abbrev pub IsFront : Definition → Fragment → Name → Type 0
IsFront def f front = IsFree (occurring f ++ fixed_words def) front

-- the new name for the place of the number: the front, an a and the number
abbrev pub new_name : Name → ℕ → Name
new_name front n = front ++ 97 ∷ decimal n

-- ---- a letter more

-- The front has one letter more, and at most half of the names that began with the old front begin with it.
pub record IsLonger (names : List Name) (old front : Name) (left : ℕ) : Type 0 where
  pub letter : ℕ
  pub is : IsLetter letter
  pub more : front ≡ old ++ letter ∷ []
  pub count : left ≡ beginning front names
  pub half : left + left ≤ beginning old names
