-- The bytes of the definition file that a tree of the language is exported as.
use Rattle.std.specs.Prelude.{ℕ, ◌≡◌, ◌<◌, true, List, [], ◌∷◌, ◌++◌, map, codes, decimal, Some, slice_get}
use Rattle.std.specs.List.{flat_map}
use Rattle.psg_terms.specs.declared.declare.ConDecl.{ConDecl}
use Rattle.psg_grammar.specs.declared.types.Definition.{Definition}
use Rattle.psg_grammar.specs.declared.types.Level.{Level}
use Rattle.psg_grammar.specs.declared.types.Level.TheVariants as levels
use Rattle.psg_grammar.specs.Fragments.{Fragment, hole, ending, cell}
use Rattle.psg_grammar.specs.Paths.{Path}
use Rattle.psg_deflines.specs.WrittenTerms.{WrittenTerm, term_parts}
use Rattle.psg_deflines.specs.WrittenTrees.{WrittenTree, tree_parts}
use Rattle.psg_deflines.specs.Forms.{parts_of, item_part, argument_parts, word_if}
use Rattle.psg_deflines.specs.declared.lines.Line.{Line}
use Rattle.psg_deflines.specs.declared.lines.Line.TheVariants as lines
use Rattle.psg_unparse.specs.Spots.{Placed, placed_in}
use Rattle.psg_self.specs.SelfLines.{lines_in}
use Rattle.psg_self.specs.declared.fault.ExportFault.{ExportFault}
use Rattle.psg_self.specs.declared.fault.ExportFault.TheVariants as faults

-- parts with nothing between two
abbrev pub packed : List (List ℕ) → List ℕ
packed parts = flat_map (λ part. part) parts

abbrev pub constructor_text : ConDecl → List ℕ
constructor_text c = packed (c.name ∷ argument_parts c.args)

abbrev pub term_text : WrittenTerm → List ℕ
term_text t = packed (term_parts t)

abbrev pub specimen_text : WrittenTree → List ℕ
specimen_text s = packed (tree_parts s)

-- the word of the form and its number, which may have several digits
abbrev pub level_words : Level → List (List ℕ)
level_words levels.Plain = []
level_words (levels.Prefix n) = codes "prefix" ∷ decimal n ∷ []
level_words (levels.Postfix n) = codes "postfix" ∷ decimal n ∷ []
level_words (levels.InfixLeft n) = codes "infixl" ∷ decimal n ∷ []
level_words (levels.InfixRight n) = codes "infixr" ∷ decimal n ∷ []
level_words (levels.InfixNone n) = codes "infix" ∷ decimal n ∷ []

-- the terms of a row's columns, after a colon if there are any
abbrev pub column_words : List WrittenTerm → List (List ℕ)
column_words [] = []
column_words (t ∷ rest) = codes ":" ∷ map term_text (t ∷ rest)

-- What an exported line is made of: words, names, items, and whole constructors, terms and specimens. The other lines
-- are in no exported text.
abbrev pub exported_words : Line → List (List ℕ)
exported_words (lines.Sort d) = codes "sort" ∷ d.name ∷ codes "=" ∷ map constructor_text d.constructors
exported_words (lines.Phylum name sort bracketed) =
    codes "phylum" ∷ name ∷ codes ":" ∷ sort ∷ word_if bracketed (codes "bracketed")
exported_words (lines.Operator name phylum scope level made) =
    codes "op" ∷ name ∷ codes ":" ∷ phylum ∷ word_if scope (codes "scope")
    ++ (level_words level ++ (codes "=" ∷ map item_part made))
exported_words (lines.Row head columns) = codes "row" ∷ term_text head ∷ column_words columns
exported_words (lines.Hole kind term (Some specimen)) =
    codes "hole" ∷ kind ∷ term_text term ∷ codes "by" ∷ specimen_text specimen ∷ []
exported_words line = parts_of line

-- words with one space between two
abbrev pub spaced : List (List ℕ) → List ℕ
spaced [] = []
spaced (w ∷ rest) = w ++ flat_map (λ v. 32 ∷ v) rest

abbrev pub exported_line : Line → List ℕ
exported_line line = spaced (exported_words line) ++ 10 ∷ []

-- the exported text: the head of version 1, and a line for each line that the tree represents
abbrev pub exported : Fragment → List ℕ
exported f = codes "psg 1\n" ++ flat_map exported_line (lines_in f)

-- ---- what is not exported

-- a placeholder, or a list that may go on
abbrev pub IsOpenEnded : Fragment → Type 0
IsOpenEnded (hole p) = Unit {0}
IsOpenEnded (ending l u) = u ≡ true
IsOpenEnded (cell l e r) = IsOpenEnded r
IsOpenEnded _ = ⊥

module _ (def : Definition) where
  -- the first such node of the tree, in the order of its spans, is at the path
  pub record IsFirstOpen (f : Fragment) (path : Path) : Type 0 where
    pub number : ℕ
    pub placed : Placed
    pub found : slice_get (placed_in def f) number ≡ Some placed
    pub path_is : placed.spot.path ≡ path
    pub is_open : IsOpenEnded placed.node
    pub first : (k : ℕ) (other : Placed) → k < number → slice_get (placed_in def f) k ≡ Some other
        → IsOpenEnded other.node → ⊥

  -- memory may run out at any time
  abbrev pub IsExportFault : Fragment → ExportFault → Type 0
  IsExportFault f (faults.Unfinished path) = IsFirstOpen f path
  IsExportFault f faults.Memory = Unit {0}
