-- Rows whose variables are numbered from 1 by first occurrence.
use Rattle.std.specs.Prelude.{ℕ, ◌≡◌, ◌+◌, ◌==◌, ◌&&◌, ◌||◌, Bool, false, if◌then◌else◌, List, [], ◌∷◌, ◌++◌, None}
use Rattle.psg_terms.specs.Terms.{Term, variable, symbol, apply}
use Rattle.psg_terms.specs.Signature.{Signature, only_constructor}

-- a variable's sort and number
abbrev pub Variable : Type 0
Variable = ℕ × ℕ

-- the variables of a term from left to right, each as often as it occurs
abbrev pub variables : Term → List Variable
variables (variable s n) = (s, n) ∷ []
variables (symbol c) = []
variables (apply f a) = variables f ++ variables a

-- the variables of a row from left to right, each as often as it occurs
abbrev pub variables_of : List Term → List Variable
variables_of [] = []
variables_of (t ∷ row) = variables t ++ variables_of row

-- whether sorts and numbers are equal; variables of different sorts differ, also with one number
abbrev pub same_variable : Variable → Variable → Bool
same_variable x y = (x.0 == y.0) && (x.1 == y.1)

-- whether the variable is in the list
abbrev pub is_noted : Variable → List Variable → Bool
is_noted x [] = false
is_noted x (y ∷ ys) = same_variable x y || is_noted x ys

-- the list with a variable at its end, unless it has it
abbrev pub noted : List Variable → Variable → List Variable
noted seen x = if is_noted x seen then seen else seen ++ x ∷ []

-- the list with these variables at its end, in order, each that it does not have yet
abbrev pub noted_all : List Variable → List Variable → List Variable
noted_all seen [] = seen
noted_all seen (x ∷ xs) = noted_all (noted seen x) xs

-- the variables of a row, each once, by first occurrence
abbrev pub first_occurrences : List Term → List Variable
first_occurrences row = noted_all [] (variables_of row)

-- their numbers count up from n
abbrev pub IsNumberedFrom : ℕ → List Variable → Type 0
IsNumberedFrom n [] = Unit {0}
IsNumberedFrom n (x ∷ xs) = (x.1 ≡ n) × IsNumberedFrom (n + 1) xs

-- no variable of a sort that is one constant
abbrev pub IsWrittenOut : Signature → Term → Type 0
IsWrittenOut sig (variable s n) = only_constructor sig s ≡ None
IsWrittenOut sig (symbol c) = Unit {0}
IsWrittenOut sig (apply f a) = IsWrittenOut sig f × IsWrittenOut sig a

-- no term of the row has a variable of a sort that is one constant
abbrev pub AreWrittenOut : Signature → List Term → Type 0
AreWrittenOut sig [] = Unit {0}
AreWrittenOut sig (t ∷ row) = IsWrittenOut sig t × AreWrittenOut sig row

-- the variables are numbered from 1 by first occurrence, and one-constant sorts are written out
pub record IsCanonical (sig : Signature) (row : List Term) : Type 0 where
  pub numbered : IsNumberedFrom 1 (first_occurrences row)
  pub written : AreWrittenOut sig row
