-- The spans of a tree that is written after a row, and what a step of the printer adds.
use Rattle.std.specs.Prelude.{ℕ, ◌≡◌, ◌≤◌, ◌+◌, cond, Bool, List, [], ◌∷◌, ◌++◌, length}
use Rattle.std.specs.Prelude.{string_bytes, codes, decimal, Option, Some, None}
use Rattle.std.specs.Option.{option_or, unwrap_or}
use Rattle.psg_grammar.specs.declared.types.Operator.{Operator}
use Rattle.psg_grammar.specs.declared.types.Definition.{Definition}
use Rattle.psg_grammar.specs.Fragments.{Fragment, hole, ending, cell, operator, with_child, with_name}
use Rattle.psg_grammar.specs.Fragments.{with_number, with_text, anything, observed, children_of}
use Rattle.psg_grammar.specs.Levels.{least_level_of}
use Rattle.psg_grammar.specs.Paths.{Path}
use Rattle.psg_tree.specs.declared.tree.Part.{Part}
use Rattle.psg_tree.specs.declared.tree.Part.TheVariants.{Sub, Name, Number, Text}
use Rattle.psg_tree.specs.AbstractText.{quoted}
use Rattle.psg_unparse.specs.Rows.{Piece, token, row, opening, closing, is_bracketed}
use Rattle.psg_unparse.specs.Rows.{is_below_level, operator_of, between}
use Rattle.psg_unparse.specs.Layout.{laid, lead}
use Rattle.psg_unparse.specs.Spans.{printed_of}
use Rattle.psg_unparse.specs.Writing.{IsWritten, Adds}
use Rattle.psg_unparse.specs.declared.nodes.Printer.{Printer}
use Rattle.psg_unparse.specs.declared.spans.Span.{Span}

-- the least level of a tree at the item of the number
abbrev pub level_wanted : Option Operator → ℕ → ℕ
level_wanted None place = 0
level_wanted (Some o) place = least_level_of o place

module _ (def : Definition) where
  -- the span of a tree that is written after a row
  abbrev pub span_at : Path → List Piece → Fragment → Span
  span_at path before f = record {
    path = path;
    start = length (laid [] before) + length (lead before (row def f));
    end = length (laid [] (before ++ row def f));
  }

  -- the spans of the nodes below it; the first element of a list has the number n
  abbrev pub spans_below : Path → List Piece → ℕ → Fragment → List Span
  spans_below path before n (hole p) = []
  spans_below path before n (ending l u) = []
  spans_below path before n (cell l e r) =
      (span_at (path ++ n ∷ []) before e ∷ spans_below (path ++ n ∷ []) before 0 e)
      ++ spans_below path (before ++ (row def e ++ between def l r)) (n + 1) r
  spans_below path before n (operator o) = []
  spans_below path before n (with_child f t) =
      let own : Path = path ++ length (children_of f) ∷ [] in
      let front : List Piece = before ++ (row def f ++ opening (is_bracketed def f t)) in
      spans_below path before n f ++ span_at own front t ∷ spans_below own front 0 t
  spans_below path before n (with_name f x) = spans_below path before n f
  spans_below path before n (with_number f x) = spans_below path before n f
  spans_below path before n (with_text f x) = spans_below path before n f
  spans_below path before n anything = []
  spans_below path before n (observed f) = spans_below path before n f

  abbrev pub spans_from : Path → Fragment → List Piece → List Span
  spans_from path f before = span_at path before f ∷ spans_below path before 0 f

  -- a part where a tree of at least the level is wanted, with brackets where it needs them; and the spans below it
  abbrev pub is_below : Fragment → ℕ → Bool
  is_below t wanted = is_below_level (operator_of def t) wanted

  abbrev pub part_row : ℕ → Part → List Piece
  part_row wanted (Sub t) = opening (is_below t wanted) ++ (row def t ++ closing (is_below t wanted))
  part_row wanted (Name n) = token n ∷ []
  part_row wanted (Number x) = token (decimal x) ∷ []
  part_row wanted (Text t) = token (quoted t) ∷ []

  abbrev pub part_spans : Path → ℕ → Part → List Piece → List Span
  part_spans path wanted (Sub t) before = spans_from path t (before ++ opening (is_below t wanted))
  part_spans path wanted (Name n) before = []
  part_spans path wanted (Number x) before = []
  part_spans path wanted (Text t) before = []

-- the pieces are added, and the spans that they have after whatever row was written before
pub record Prints (pieces : List Piece) (listed : List Piece → List Span) (old new : Printer) : Type 0 where
  pub adds : Adds pieces old.writer new.writer
  pub path : new.path.items ≡ old.path.items
  pub grown : length old.spans.items ≤ length new.spans.items
  pub spans : (before : List Piece) → IsWritten old.writer before → new.spans.items ≡ old.spans.items ++ listed before

module _ (def : Definition) where
  -- a tree is added with its span and those below it, where the path leads to it
  abbrev pub PrintsTree : Path → Fragment → Printer → Printer → Type 0
  PrintsTree path t = Prints (row def t) (spans_from def path t)

  -- the tree at the printer's path is added with the spans below it
  abbrev pub PrintsBelow : Fragment → Printer → Printer → Type 0
  PrintsBelow t old new = Prints (row def t) (λ before. spans_below def old.path.items before 0 t) old new

  abbrev pub PrintsPart : Path → ℕ → Part → Printer → Printer → Type 0
  PrintsPart path wanted part = Prints (part_row def wanted part) (part_spans def path wanted part)

-- the printer has written the tree, with its spans and no other ones
pub record IsWhole (def : Definition) (t : Fragment) (p : Printer) : Type 0 where
  pub written : IsWritten p.writer (row def t)
  pub spans : p.spans.items ≡ (printed_of def t).spans

-- how many children a part is
abbrev pub count_of : Part → ℕ
count_of (Sub t) = 1
count_of (Name n) = 0
count_of (Number x) = 0
count_of (Text t) = 0

-- what is written of the end of a list
abbrev pub ending_row : Bool → List Piece
ending_row u = cond u (token (codes "...") ∷ []) []

-- a node is begun: its span is listed, empty, where the text ends, and the place of the first token is forgotten
pub record IsOpened (outer : Option ℕ) (old new : Printer) : Type 0 where
  pub known : outer ≡ old.writer.first
  pub writer : new.writer ≡ record old.writer { first = None }
  pub path : new.path.items ≡ old.path.items
  pub spans : new.spans.items
      ≡ old.spans.items ++ record {
        path = old.path.items;
        start = length (string_bytes old.writer.out);
        end = length (string_bytes old.writer.out);
      } ∷ []

-- the node with the span at the place is ended
pub record IsClosed (place : ℕ) (outer : Option ℕ) (old new : Printer) : Type 0 where
  pub writer : new.writer ≡ record old.writer { first = option_or outer old.writer.first }
  pub path : new.path.items ≡ old.path.items
  pub long : length new.spans.items ≡ length old.spans.items
  pub spans : (front back : List Span) (s : Span) → old.spans.items ≡ front ++ s ∷ back → length front ≡ place
      → new.spans.items ≡ front ++ record
      { path = s.path; start = unwrap_or old.writer.first s.start; end = length (string_bytes old.writer.out) } ∷ back
