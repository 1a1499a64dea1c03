-- The lines of a definition file that a tree of the language represents.
use Rattle.std.specs.Prelude.{ℕ, Bool, true, false, cond, bytes_eq, List, [], ◌∷◌, map, codes, Option, Some, None}
use Rattle.std.specs.List.{flat_map}
use Rattle.psg_terms.specs.Names.{Name}
use Rattle.psg_terms.specs.declared.declare.ConDecl.{ConDecl}
use Rattle.psg_grammar.specs.declared.types.Level.{Level}
use Rattle.psg_grammar.specs.declared.types.Level.TheVariants as levels
use Rattle.psg_grammar.specs.Fragments.{Fragment, cell, with_child, with_name, observed}
use Rattle.psg_tree.specs.declared.tree.Part.{Part}
use Rattle.psg_deflines.specs.WrittenTerms.{WrittenTerm}
use Rattle.psg_deflines.specs.WrittenTerms as terms
use Rattle.psg_deflines.specs.WrittenTrees.{WrittenTree}
use Rattle.psg_deflines.specs.WrittenTrees as trees
use Rattle.psg_deflines.specs.declared.lines.LineItem.{LineItem}
use Rattle.psg_deflines.specs.declared.lines.LineItem.TheVariants as items
use Rattle.psg_deflines.specs.declared.lines.Line.{Line}
use Rattle.psg_deflines.specs.declared.lines.Line.TheVariants as lines
use Rattle.psg_self.specs.declared.form.Form.{Form}
use Rattle.psg_self.specs.declared.form.Form.TheVariants as forms
use Rattle.psg_self.specs.NodeParts.{form_of, name_in, number_in, text_in, part_at, name_at, tree_at, elements_at}
use Rattle.psg_self.specs.NodeParts.{elements_of}

-- ---- terms and specimens

-- a constructor with its arguments, or a variable
abbrev mutual
  pub term_of : Fragment → WrittenTerm
  term_of (with_child f args) = terms.applied (terms.named (name_at f 0)) (terms_of args)
  term_of (with_name f n) = terms.variable n
  term_of (observed f) = term_of f
  term_of _ = terms.named []

  pub terms_of : Fragment → List WrittenTerm
  terms_of (cell l e r) = term_of e ∷ terms_of r
  terms_of _ = []

-- parts after what is written before them
abbrev pub with_trees : WrittenTree → List WrittenTree → WrittenTree
with_trees front [] = front
with_trees front (t ∷ ts) = with_trees (trees.with_tree front t) ts

-- an operator with its parts
abbrev mutual
  pub specimen_of : Fragment → WrittenTree
  specimen_of (with_child f made) = with_trees (trees.operator (name_at f 0)) (specimens_of made)
  specimen_of (observed f) = specimen_of f
  specimen_of _ = trees.operator []

  pub specimens_of : Fragment → List WrittenTree
  specimens_of (cell l e r) = specimen_of e ∷ specimens_of r
  specimens_of _ = []

abbrev pub term_in : Option Fragment → WrittenTerm
term_in (Some t) = term_of t
term_in None = terms.named []

abbrev pub specimen_in : Option Fragment → WrittenTree
specimen_in (Some t) = specimen_of t
specimen_in None = trees.operator []

-- ---- the parts of lines

-- an argument of a constructor is a node with one name
abbrev pub constructor_of : Fragment → ConDecl
constructor_of f = record { name = name_at f 0; args = map (λ a. name_at a 0) (elements_at f 1) }

abbrev pub level_by : Option Form → ℕ → Level
level_by (Some forms.Prefix) n = levels.Prefix n
level_by (Some forms.Postfix) n = levels.Postfix n
level_by (Some forms.InfixLeft) n = levels.InfixLeft n
level_by (Some forms.InfixRight) n = levels.InfixRight n
level_by (Some forms.InfixNone) n = levels.InfixNone n
level_by _ n = levels.Plain

abbrev pub level_in : Option Fragment → Level
level_in (Some t) = level_by (form_of t) (number_in (part_at t 0))
level_in None = levels.Plain

-- A slot of the name `number` or `text` is that literal. No phylum has one of these names.
abbrev pub slot_of : Name → LineItem
slot_of n = cond (bytes_eq n (codes "number")) items.Number (cond (bytes_eq n (codes "text")) items.Text (items.Slot n))

abbrev pub item_by : Option Form → Option Part → LineItem
item_by (Some forms.Word) part = items.Word (text_in part)
item_by (Some forms.Slot) part = slot_of (name_in part)
item_by (Some forms.Space) part = items.Space
item_by (Some forms.Tight) part = items.Tight
item_by (Some forms.Line) part = items.Line
item_by (Some forms.In) part = items.In
item_by _ part = items.Out

abbrev pub item_of : Fragment → LineItem
item_of f = item_by (form_of f) (part_at f 0)

-- `row head : columns`
abbrev pub row_of : Fragment → Line
row_of f = lines.Row (term_in (tree_at f 0)) (map term_of (elements_at f 1))

-- ---- lines

abbrev pub sort_line : Fragment → Line
sort_line f = lines.Sort (record { name = name_at f 0; constructors = map constructor_of (elements_at f 1) })

abbrev pub phylum_line : Bool → Fragment → Line
phylum_line bracketed f = lines.Phylum (name_at f 0) (name_at f 1) bracketed

abbrev pub operator_line : Fragment → Line
operator_line f =
    lines.Operator (name_at f 0) (name_at f 1) false (level_in (tree_at f 2)) (map item_of (elements_at f 3))

abbrev pub hole_line : Fragment → Line
hole_line f = lines.Hole (name_at f 0) (term_in (tree_at f 1)) (Some (specimen_in (tree_at f 2)))

-- an operator's rows are on lines after it
abbrev pub lines_by : Option Form → Fragment → List Line
lines_by (Some forms.SortLine) f = sort_line f ∷ []
lines_by (Some forms.PhylumLine) f = phylum_line false f ∷ []
lines_by (Some forms.BracketedLine) f = phylum_line true f ∷ []
lines_by (Some forms.OperatorLine) f = operator_line f ∷ map row_of (elements_at f 4)
lines_by (Some forms.HoleLine) f = hole_line f ∷ []
lines_by _ f = []

abbrev pub lines_of : Fragment → List Line
lines_of f = lines_by (form_of f) f

-- the lines that a list of lines represents
abbrev pub lines_in : Fragment → List Line
lines_in f = flat_map lines_of (elements_of f)
