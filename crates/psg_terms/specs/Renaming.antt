-- New numbers for variables.
use Rattle.std.specs.Prelude.{ℕ, ◌≡◌, ◌+◌, true, cond, List, [], ◌∷◌, map, Option, Some, None}
use Rattle.psg_terms.specs.Terms.{Term, variable, symbol}
use Rattle.psg_terms.specs.Signature.{Signature, only_constructor}
use Rattle.psg_terms.specs.Instances.{Substitution, substitute}
use Rattle.psg_terms.specs.Canonical.{Variable, same_variable, is_noted, noted_all, variables_of, AreWrittenOut}
use Rattle.psg_terms.specs.declared.canonical.Key.{Key}
use Rattle.psg_terms.specs.declared.sorts.SortId.{SortId}

-- the variable that a key of the program is
abbrev pub key : Key → Variable
key k = (k.sort.0, k.number)

-- the variables that the program's keys are, in order
abbrev pub keys : List Key → List Variable
keys [] = []
keys (k ∷ ks) = key k ∷ keys ks

-- the place of a variable in a list
abbrev pub place : Variable → List Variable → ℕ
place x [] = 0
place x (y ∷ ys) = cond (same_variable x y) 0 (place x ys + 1)

-- the list with a variable in front, unless its sort is one constant
abbrev pub open_first : Option ℕ → Variable → List Variable → List Variable
open_first None x xs = x ∷ xs
open_first (Some c) x xs = xs

-- the variables that are of no one-constant sort
abbrev pub opens : Signature → List Variable → List Variable
opens sig [] = []
opens sig (x ∷ xs) = open_first (only_constructor sig x.0) x (opens sig xs)

-- the term, or the only constant of its sort
abbrev pub written : Option ℕ → Term → Term
written None t = t
written (Some c) t = symbol c

-- a known variable is numbered by its place, from base + 1; one-constant sorts are written out
abbrev pub numbering : Signature → ℕ → List Variable → Substitution
numbering sig base known s n = written (only_constructor sig s) (variable s (base + place (s, n) known + 1))

-- each variable's number is raised by the base
abbrev pub raised : ℕ → Substitution
raised base s n = variable s (base + n)

-- The known variables are the old ones and the row's open ones, by first occurrence, and the row is renumbered by them.
pub record Renumbered (sig : Signature) (base : ℕ) (old new : List Variable) (row copy : List Term) : Type 0 where
  pub known : new ≡ noted_all old (opens sig (variables_of row))
  pub made : copy ≡ map (substitute (numbering sig base new)) row

-- each variable of the second list is in the first
abbrev pub AreKnown : List Variable → List Variable → Type 0
AreKnown known [] = Unit {0}
AreKnown known (x ∷ xs) = (is_noted x known ≡ true) × AreKnown known xs

-- a variable of each of these sorts, numbered from n on
abbrev pub numbered_from : ℕ → List SortId → List Variable
numbered_from n [] = []
numbered_from n (s ∷ sorts) = (s.0, n) ∷ numbered_from (n + 1) sorts

-- The row's variables that are not among the old ones are numbered on after the old ones by first occurrence, and the
-- new ones are all together; one-constant sorts are written out.
pub record GoesOn (sig : Signature) (old new : List SortId) (row : List Term) : Type 0 where
  pub known : noted_all (numbered_from 1 old) (variables_of row) ≡ numbered_from 1 new
  pub written : AreWrittenOut sig row
