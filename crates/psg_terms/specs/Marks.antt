-- Marks of sorts: which are known to have a term without variables. And the constructors of each sort, kept as lists.
use Rattle.std.specs.Prelude.{ℕ, ◌≡◌, ◌+◌, ◌<◌, Bool, true, cond, List, [], ◌∷◌, slice_get, Some}
use Rattle.psg_terms.specs.Signature.{Signature, Symbol, constructors_from}
use Rattle.psg_terms.specs.Declarations.{IsInhabited}
use Rattle.psg_terms.specs.declared.sorts.ConId.{ConId}

-- each of the sorts is marked
abbrev pub AreMarked : List Bool → List ℕ → Type 0
AreMarked marks [] = Unit {0}
AreMarked marks (s ∷ ss) = (slice_get marks s ≡ Some true) × AreMarked marks ss

-- the sorts' numbers are below n
abbrev pub AreBelow : ℕ → List ℕ → Type 0
AreBelow n [] = Unit {0}
AreBelow n (s ∷ ss) = (s < n) × AreBelow n ss

-- the sorts of the constructors' arguments and results have numbers below n
abbrev pub AllBelow : ℕ → List Symbol → Type 0
AllBelow n [] = Unit {0}
AllBelow n (x ∷ xs) = AreBelow n x.arguments × (x.sort < n) × AllBelow n xs

-- each marked sort has a term without variables
abbrev pub AreRight : Signature → List Bool → Type 0
AreRight sig marks = (s : ℕ) → slice_get marks s ≡ Some true → IsInhabited sig s

-- the constructor makes a marked sort of marked sorts
abbrev pub Keeps : List Bool → Symbol → Type 0
Keeps marks x = AreMarked marks x.arguments → slice_get marks x.sort ≡ Some true

-- each constructor makes a marked sort of marked sorts, so no pass marks more
abbrev pub AllKeep : List Bool → List Symbol → Type 0
AllKeep marks [] = Unit {0}
AllKeep marks (x ∷ xs) = Keeps marks x × AllKeep marks xs

-- how many sorts are not marked
abbrev pub unmarked : List Bool → ℕ
unmarked [] = 0
unmarked (b ∷ bs) = cond b 0 1 + unmarked bs

-- the constructors as numbers
abbrev pub con_numbers : List ConId → List ℕ
con_numbers [] = []
con_numbers (c ∷ cs) = c.0 ∷ con_numbers cs

-- the lists are those of the constructors of the sorts from n on
abbrev pub AreMade : ℕ → List (List ConId) → List Symbol → Type 0
AreMade n [] xs = Unit {0}
AreMade n (ids ∷ rest) xs = (con_numbers ids ≡ constructors_from 0 n xs) × AreMade (n + 1) rest xs
