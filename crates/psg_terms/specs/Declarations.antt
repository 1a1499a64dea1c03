-- Sorts and constructors as they are written, the signature that they spell, and what can be wrong with them.
use Rattle.std.specs.Prelude.{ℕ, ◌≡◌, ◌+◌, ◌<◌, true, false, List, [], ◌∷◌, ◌++◌, length, take, slice_get, Some}
use Rattle.psg_terms.specs.Names.{Name, is_among, has_twice}
use Rattle.psg_terms.specs.Terms.{Term}
use Rattle.psg_terms.specs.Signature.{Signature, Symbol, HasSort, sole, constructors_of}
use Rattle.psg_terms.specs.Instances.{IsGround}
use Rattle.psg_terms.specs.declared.declare.ConDecl.{ConDecl}
use Rattle.psg_terms.specs.declared.declare.SortDecl.{SortDecl}

-- the names of the sorts, in order
abbrev pub sort_names : List SortDecl → List Name
sort_names [] = []
sort_names (d ∷ ds) = d.name ∷ sort_names ds

-- a constructor with the number of its sort
abbrev pub Numbered : Type 0
Numbered = ℕ × ConDecl

-- these constructors, each with the number of one sort
abbrev pub with_sort : ℕ → List ConDecl → List Numbered
with_sort s [] = []
with_sort s (c ∷ cs) = (s, c) ∷ with_sort s cs

-- the constructors of all sorts in order, where the first sort has the number n
abbrev pub in_order : ℕ → List SortDecl → List Numbered
in_order n [] = []
in_order n (d ∷ ds) = with_sort n d.constructors ++ in_order (n + 1) ds

-- the names of the constructors, in order
abbrev pub names_in : List Numbered → List Name
names_in [] = []
names_in (c ∷ cs) = c.1.name ∷ names_in cs

-- the names of the arguments' sorts
abbrev pub arguments_in : List Numbered → List Name
arguments_in [] = []
arguments_in (c ∷ cs) = c.1.args ++ arguments_in cs

-- the names of the constructors of all sorts, in order
abbrev pub constructor_names : List SortDecl → List Name
constructor_names ds = names_in (in_order 0 ds)

-- the names of all arguments' sorts, in order
abbrev pub argument_names : List SortDecl → List Name
argument_names ds = arguments_in (in_order 0 ds)

-- the names are those of the sorts with these numbers
abbrev pub AreNamed : List Name → List Name → List ℕ → Type 0
AreNamed sorts [] [] = Unit {0}
AreNamed sorts [] (s ∷ ss) = ⊥
AreNamed sorts (n ∷ ns) [] = ⊥
AreNamed sorts (n ∷ ns) (s ∷ ss) = (slice_get sorts s ≡ Some n) × AreNamed sorts ns ss

-- the constructor as it is written
pub record IsSymbol (sorts : List Name) (c : Numbered) (x : Symbol) : Type 0 where
  pub name : x.name ≡ c.1.name
  pub arguments : AreNamed sorts c.1.args x.arguments
  pub sort : x.sort ≡ c.0

-- each constructor is as it is written, and there are no others
abbrev pub AreSpelled : List Name → List Numbered → List Symbol → Type 0
AreSpelled sorts [] [] = Unit {0}
AreSpelled sorts [] (x ∷ xs) = ⊥
AreSpelled sorts (c ∷ cs) [] = ⊥
AreSpelled sorts (c ∷ cs) (x ∷ xs) = IsSymbol sorts c x × AreSpelled sorts cs xs

-- The signature has the sorts' names in order and the constructors of all sorts in order, each with its name, its sort
-- and the positions of the sorts that its arguments name.
pub record IsSpelled (written : List SortDecl) (sig : Signature) : Type 0 where
  pub sorts : sig.sorts ≡ sort_names written
  pub symbols : AreSpelled (sort_names written) (in_order 0 written) sig.symbols

-- the name at the place occurs before it, and no name before the place does
pub record IsFirstRepeat (names : List Name) (place : ℕ) (n : Name) : Type 0 where
  pub at : slice_get names place ≡ Some n
  pub again : is_among (take place names) n ≡ true
  pub before : has_twice (take place names) ≡ false

-- The first name that occurs twice is a sort's. A sort's name is read before those of its constructors, and sorts and
-- constructors may share a name.
pub record RepeatsSort (written : List SortDecl) (n : Name) : Type 0 where
  pub sort : ℕ
  pub repeat : IsFirstRepeat (sort_names written) sort n
  pub before : has_twice (constructor_names (take sort written)) ≡ false

-- the first name that occurs twice is a constructor's
pub record RepeatsConstructor (written : List SortDecl) (n : Name) : Type 0 where
  pub place : ℕ
  pub found : Numbered
  pub at : slice_get (in_order 0 written) place ≡ Some found
  pub repeat : IsFirstRepeat (constructor_names written) place n
  pub before : has_twice (take (found.0 + 1) (sort_names written)) ≡ false

-- no name occurs twice
pub record AreDistinct (written : List SortDecl) : Type 0 where
  pub sorts : has_twice (sort_names written) ≡ false
  pub constructors : has_twice (constructor_names written) ≡ false

-- each of the second names is one of the first
abbrev pub AllAmong : List Name → List Name → Type 0
AllAmong names [] = Unit {0}
AllAmong names (n ∷ ns) = (is_among names n ≡ true) × AllAmong names ns

-- the name is the first of these that is not among the sorts' names
pub record IsFirstMissing (sorts names : List Name) (n : Name) : Type 0 where
  pub front : List Name
  pub behind : List Name
  pub split : names ≡ front ++ n ∷ behind
  pub known : AllAmong sorts front
  pub missing : is_among sorts n ≡ false

-- no name occurs twice, and the name is the first argument's that is no sort's
pub record MissesSort (written : List SortDecl) (n : Name) : Type 0 where
  pub distinct : AreDistinct written
  pub first : IsFirstMissing (sort_names written) (argument_names written) n

-- a term without variables of the sort
pub record IsInhabited (sig : Signature) (s : ℕ) : Type 0 where
  pub term : Term
  pub variable_free : IsGround term
  pub sorted : HasSort sig term s

-- the sort is the first without a term without variables
pub record IsFirstEmpty (sig : Signature) (s : ℕ) : Type 0 where
  pub inside : s < length sig.sorts
  pub empty : (t : Term) → IsGround t → HasSort sig t s → ⊥
  pub before : (r : ℕ) → r < s → IsInhabited sig r

-- there is only one constructor, and it has arguments
pub record IsWideAmong (ids : List ℕ) (symbols : List Symbol) : Type 0 where
  pub constructor : ℕ
  pub only : sole ids ≡ Some constructor
  pub found : Symbol
  pub at : slice_get symbols constructor ≡ Some found
  pub wide : 0 < length found.arguments

-- the sort's only constructor has arguments
abbrev pub IsWide : Signature → ℕ → Type 0
IsWide sig s = IsWideAmong (constructors_of sig s) sig.symbols

-- each sort has a term without variables, and the sort is the first whose only constructor has arguments
pub record IsFirstWide (sig : Signature) (s : ℕ) : Type 0 where
  pub inhabited : (r : ℕ) → r < length sig.sorts → IsInhabited sig r
  pub inside : s < length sig.sorts
  pub wide : IsWide sig s
  pub before : (r : ℕ) → r < s → IsWide sig r → ⊥

-- the names are right, and this is said of the signature that is spelled
pub record HasFault (Fault : Signature → ℕ → Type 0) (written : List SortDecl) (s : ℕ) : Type 0 where
  pub distinct : AreDistinct written
  pub sig : Signature
  pub spelled : IsSpelled written sig
  pub fault : Fault sig s
