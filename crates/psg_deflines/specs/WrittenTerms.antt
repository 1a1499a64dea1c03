-- Terms as they are written in a line, with names in place of numbers.
use Rattle.std.specs.Prelude.{ℕ, ◌≡◌, ◌+◌, ◌≤◌, ◌||◌, Bool, true, false, max, List, [], ◌∷◌, ◌++◌, codes}
use Rattle.std.specs.List.{list_all}
use Rattle.psg_terms.specs.Names.{Name}
use Rattle.psg_grammar.specs.Sound.{is_upper, is_lower, is_digit, IsOwnName}

-- A variable without its mark, a constructor, or a term applied to one more argument.
pub data WrittenTerm : Type 0 where
  variable : (name : List ℕ) → WrittenTerm
  named : (name : List ℕ) → WrittenTerm
  apply : (function argument : WrittenTerm) → WrittenTerm

-- a term applied to several arguments, in order
abbrev pub applied : WrittenTerm → List WrittenTerm → WrittenTerm
applied t [] = t
applied t (a ∷ rest) = applied (apply t a) rest

-- a constructor with its arguments in brackets, a comma between two; what is before the last argument is opened
abbrev mutual
  pub term_parts : WrittenTerm → List (List ℕ)
  term_parts (variable n) = (63 ∷ n) ∷ []
  term_parts (named n) = n ∷ []
  term_parts (apply f a) = opened f ++ term_parts a ++ codes ")" ∷ []

  pub opened : WrittenTerm → List (List ℕ)
  opened (variable n) = (63 ∷ n) ∷ codes "(" ∷ []
  opened (named n) = n ∷ codes "(" ∷ []
  opened (apply f a) = opened f ++ term_parts a ++ codes "," ∷ []

-- letters and digits, one or more
abbrev pub is_plain : ℕ → Bool
is_plain c = is_upper c || is_lower c || is_digit c

-- one or more letters and digits
abbrev pub is_variable_name : Name → Bool
is_variable_name [] = false
is_variable_name (c ∷ cs) = list_all is_plain (c ∷ cs)

-- arguments may follow it
abbrev pub is_head : WrittenTerm → Bool
is_head (variable n) = false
is_head (named n) = true
is_head (apply f a) = true

-- the names have their forms, and no variable has arguments
abbrev pub HasTermForm : WrittenTerm → Type 0
HasTermForm (variable n) = is_variable_name n ≡ true
HasTermForm (named n) = IsOwnName n
HasTermForm (apply f a) = (is_head f ≡ true) × HasTermForm f × HasTermForm a

-- a constant and a variable have depth 1
abbrev pub term_depth : WrittenTerm → ℕ
term_depth (variable n) = 1
term_depth (named n) = 1
term_depth (apply f a) = max (term_depth f) (term_depth a + 1)

-- how deep a term, and a specimen, may be nested
abbrev pub most_nested : ℕ
most_nested = 32

-- the term is not nested too deep
abbrev pub IsShallowTerm : WrittenTerm → Type 0
IsShallowTerm t = term_depth t ≤ most_nested
