-- A program that was read from a text with a filling.
use Rattle.std.specs.Prelude.{ℕ, ◌≡◌, ◌≤◌, ◌==◌, Bool, true, false, List, Option, Some, None}
use Rattle.std.specs.Str.{IsUtf8}
use Rattle.psg_grammar.specs.declared.types.Definition.{Definition}
use Rattle.psg_grammar.specs.declared.types.Kind.{Kind}
use Rattle.psg_grammar.specs.Fragments.{Fragment, hole, ending, cell, operator, with_child, with_name, with_number}
use Rattle.psg_grammar.specs.Fragments.{with_text, anything, observed}
use Rattle.psg_grammar.specs.Paths.{Path, node_at}
use Rattle.psg_grammar.specs.Sizes.{IsBig, IsDeep}
use Rattle.psg_grammar.specs.WellFormed.{WellFormed}
use Rattle.psg_class.specs.Texts.{tokens_of}
use Rattle.psg_class.specs.Yields.{Yields}
use Rattle.psg_lexis.specs.declared.token.LexFault.{LexFault}
use Rattle.psg_lexis.specs.declared.token.LexFault.TheVariants as lexical
use Rattle.psg_lexis.specs.declared.token.Spanned.{Spanned}
use Rattle.psg_parse.specs.declared.fault.ParseFault.{ParseFault}
use Rattle.psg_parse.specs.declared.fault.ParseFault.TheVariants as faults
use Rattle.psg_program.specs.declared.reading.Program.{Program}
use Rattle.psg_program.specs.Programs.{IsProgramText, IsReadFrom, most_brackets}
use Rattle.psg_ranges.specs.Forests.{nodes_of}
use Rattle.psg_completing.specs.declared.around.Word.{Word}
use Rattle.psg_completing.specs.declared.fillings.Filling.{Filling}
use Rattle.psg_completing.specs.declared.fitting.Fitted.{Fitted}
use Rattle.psg_completing.specs.Fillings.{filled, mark_byte}
use Rattle.psg_pointing.specs.Pointing.{IsPointed}

abbrev pub is_lost : LexFault → Bool
is_lost lexical.Memory = true
is_lost _ = false

abbrev pub is_lost_parse : ParseFault → Bool
is_lost_parse faults.Memory = true
is_lost_parse _ = false

-- the node is a placeholder of the phylum
abbrev pub is_hole : ℕ → Fragment → Bool
is_hole phylum (hole p) = p == phylum
is_hole phylum (ending l u) = false
is_hole phylum (cell l e r) = false
is_hole phylum (operator o) = false
is_hole phylum (with_child f t) = false
is_hole phylum (with_name f n) = false
is_hole phylum (with_number f n) = false
is_hole phylum (with_text f t) = false
is_hole phylum anything = false
is_hole phylum (observed f) = false

abbrev pub is_hole_by : ℕ → Option Fragment → Bool
is_hole_by phylum None = false
is_hole_by phylum (Some f) = is_hole phylum f

module _ (def : Definition) (kind : Kind) where
  -- a tree of the kind within the limits has the tokens
  pub record IsTreeOf (ts : List Spanned) (f : Fragment) : Type 0 where
    pub nesting : ℕ
    pub yields : Yields def f kind 0 nesting (tokens_of ts)
    pub formed : WellFormed def f kind
    pub depth : IsDeep f → ⊥
    pub brackets : nesting ≤ most_brackets
    pub small : IsBig f → ⊥

  -- the program is that of the text
  abbrev pub IsReadAs : List ℕ → Program → Type 0
  IsReadAs own p = IsProgramText def kind own p.tree × IsReadFrom def kind own p

  -- the program was read from the text
  pub record IsRead (own : List ℕ) (p : Program) : Type 0 where
    pub is_text : IsUtf8 own
    pub program : IsProgramText def kind own p.tree
    pub read : IsReadFrom def kind own p

  -- among these tokens the node of the tree at the byte is a placeholder of the phylum
  pub record IsPlaceholderIn (ts : List Spanned) (f : Fragment) (byte phylum : ℕ) (path : Path) : Type 0 where
    pub pointed : (nesting : ℕ) (y : Yields def f kind 0 nesting (tokens_of ts))
        → IsPointed ts byte (nodes_of def f kind 0 nesting (tokens_of ts) y) (Some path)
    pub there : node_at f path ≡ Some (hole phylum)

  -- it is none
  abbrev pub HasNoPlaceholder : List Spanned → Fragment → ℕ → ℕ → Type 0
  HasNoPlaceholder ts f byte phylum = (path : Path) (nesting : ℕ) (y : Yields def f kind 0 nesting (tokens_of ts))
      → IsPointed ts byte (nodes_of def f kind 0 nesting (tokens_of ts) y) (Some path)
      → node_at f path ≡ Some (hole phylum) → ⊥

  -- the text with the filling in place of the word was read, and its placeholder is at the path
  pub record IsFitted (own : List ℕ) (w : Word) (f : Filling) (fit : Fitted) : Type 0 where
    pub filling_is : fit.filling ≡ f
    pub read : IsRead (filled def own w f) fit.program
    pub placeholder : IsPlaceholderIn fit.program.tokens.items fit.program.tree (mark_byte def w f) f.phylum fit.path

abbrev pub filling_in : Option Fitted → Option Filling
filling_in None = None
filling_in (Some fit) = Some fit.filling
