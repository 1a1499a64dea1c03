-- What a tree of the language says.
use Rattle.std.specs.Prelude.{◌≡◌, true, List, [], ◌∷◌, ◌++◌}
use Rattle.std.specs.List.{AllByRecursion}
use Rattle.psg_grammar.specs.declared.types.Definition.{Definition}
use Rattle.psg_grammar.specs.Fragments.{Fragment}
use Rattle.psg_deflines.specs.WrittenTerms.{WrittenTerm, variable, named, apply, is_variable_name}
use Rattle.psg_deflines.specs.declared.lines.Line.{Line}
use Rattle.psg_deflines.specs.declared.lines.Line.TheVariants as lines
use Rattle.psg_defcheck.specs.Meanings.{IsSorted}
use Rattle.psg_defnumber.specs.Numbers.{IsNumbered}
use Rattle.psg_self.specs.SelfLines.{lines_in}

-- each variable of the term has a name of letters and digits
abbrev pub HasPlainNames : WrittenTerm → Type 0
HasPlainNames (variable n) = is_variable_name n ≡ true
HasPlainNames (named n) = Unit {0}
HasPlainNames (apply f a) = HasPlainNames f × HasPlainNames a

abbrev pub HasPlainVariables : Line → Type 0
HasPlainVariables (lines.Row head columns) = HasPlainNames head × AllByRecursion HasPlainNames columns
HasPlainVariables (lines.Hole kind term specimen) = HasPlainNames term
HasPlainVariables _ = Unit {0}

-- A variable has one sort in its line: the line's terms and specimens are at places of their sorts, for some sorts of
-- its variables. `numbered` does not say it of a variable one of whose places has a one-constant sort.
abbrev pub AreSorted : List Line → List Line → List Line → Type 0
AreSorted file above [] = Unit {0}
AreSorted file above (line ∷ rest) = ((IsSorted file above line → ⊥) → ⊥) × AreSorted file (above ++ line ∷ []) rest

-- The definition is what the tree's lines are together: each name is the position of its only declaration, and the
-- variables of a line are numbered by first occurrence. It is of version 1, without spaces, lists and declare rows.
pub record Says (f : Fragment) (def : Definition) : Type 0 where
  pub version : def.version ≡ 1
  pub no_spaces : def.spaces ≡ []
  pub no_lists : def.lists ≡ []
  pub no_declares : def.declare_rows ≡ []
  pub numbered : IsNumbered 1 (lines_in f) def
  pub variables : AllByRecursion HasPlainVariables (lines_in f)
  pub sorted : AreSorted (lines_in f) [] (lines_in f)
