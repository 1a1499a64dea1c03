-- The layout of a written definition: one line for each thing, in the order of sorts, spaces, phyla, lists, operators
-- each with its rows, nil rows, cell rows, hole rows each with its cases, and declare rows.
use Rattle.std.specs.Prelude.{ℕ, ◌≡◌, ◌≤◌, ◌+◌, cond, Some, None, List, [], ◌∷◌, ◌++◌, map, suc, zero, decimal}
use Rattle.std.specs.List.{AllByRecursion}
use Rattle.std.specs.Str.Lines.{lines as texts_of}
use Rattle.psg_terms.specs.Names.{Name, is_among}
use Rattle.psg_deflines.specs.WrittenTerms.{WrittenTerm, variable, named, apply}
use Rattle.psg_deflines.specs.WrittenTrees.{place_terms}
use Rattle.psg_deflines.specs.Entries.{AreSpelled}
use Rattle.psg_deflines.specs.declared.lines.Line.{Line}
use Rattle.psg_deflines.specs.declared.lines.Line.TheVariants as lines

-- the group of a line: lines of a lower number are written first
abbrev pub rank : Line → ℕ
rank (lines.Sort d) = 0
rank (lines.Space name sort) = 1
rank (lines.Phylum name sort bracketed) = 2
rank (lines.List name sort elements separator on_lines unfinished) = 3
rank (lines.Operator name phylum scope level made) = 4
rank (lines.Row head columns) = 4
rank (lines.Nil list term) = 5
rank (lines.Cell list term first rest) = 6
rank (lines.Hole kind term specimen) = 7
rank (lines.Case term specimen) = 7
rank (lines.Declare space list entity value specimen) = 8

-- the ranks do not fall
abbrev pub IsRanked : ℕ → List Line → Type 0
IsRanked low [] = Unit {0}
IsRanked low (line ∷ rest) = (low ≤ rank line) × IsRanked (rank line) rest

-- a hole row's cases are on lines of their own
abbrev pub HasCasesBehind : Line → Type 0
HasCasesBehind (lines.Hole kind term specimen) = specimen ≡ None
HasCasesBehind _ = Unit {0}

-- the variables of a line by first occurrence, each once; `met` are those before
abbrev pub met_in : WrittenTerm → List Name → List Name
met_in (variable n) met = cond (is_among met n) met (met ++ n ∷ [])
met_in (named n) met = met
met_in (apply f a) met = met_in a (met_in f met)

-- the variables of the terms after those that were met, each once, in the order of their first places
abbrev pub met_in_all : List WrittenTerm → List Name → List Name
met_in_all [] met = met
met_in_all (t ∷ ts) met = met_in_all ts (met_in t met)

-- the terms of a line, in the order in which they are written
abbrev pub line_terms : Line → List WrittenTerm
line_terms (lines.Row head columns) = head ∷ columns
line_terms (lines.Nil list term) = term ∷ []
line_terms (lines.Cell list term first rest) = term ∷ first ∷ rest ∷ []
line_terms (lines.Hole kind term None) = term ∷ []
line_terms (lines.Hole kind term (Some specimen)) = term ∷ place_terms specimen
line_terms (lines.Case term specimen) = term ∷ place_terms specimen
line_terms (lines.Declare space list entity value specimen) = entity ∷ value ∷ place_terms specimen
line_terms _ = []

-- k decimals from n on
abbrev pub numbers_from : ℕ → ℕ → List Name
numbers_from n zero = []
numbers_from n (suc k) = decimal n ∷ numbers_from (n + 1) k

-- variables are named by numbers from 1
abbrev pub HasNumberedVariables : Line → Type 0
HasNumberedVariables line = (k : ℕ) × (met_in_all (line_terms line) [] ≡ numbers_from 1 k)

-- the text is the head of the version and such lines, with nothing between
pub record HasLayout (version : ℕ) (text : List ℕ) : Type 0 where
  pub written : List Line
  pub spelled : AreSpelled version (texts_of text) (map Some written)
  pub ranked : IsRanked 0 written
  pub cases : AllByRecursion HasCasesBehind written
  pub variables : AllByRecursion HasNumberedVariables written
