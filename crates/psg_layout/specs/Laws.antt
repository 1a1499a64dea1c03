-- What is so of arranged trees.
use Rattle.std.specs.Prelude.{ℕ, ◌≡◌, List, [], ◌∷◌, ◌++◌, None}
use Rattle.std.specs.List.{AllByRecursion}
use Rattle.psg_grammar.specs.declared.types.Kind.{Kind}
use Rattle.psg_grammar.specs.declared.types.Definition.{Definition}
use Rattle.psg_grammar.specs.Fragments.{Fragment}
use Rattle.psg_grammar.specs.Printable.{IsPrintable}
use Rattle.psg_grammar.specs.WellFormed.{WellFormed}
use Rattle.psg_unparse.specs.Rows.{row}
use Rattle.psg_unparse.specs.Layout.{last_in}
use Rattle.psg_unparse.specs.Nodes.{part_of}
use Rattle.psg_unparse.specs.Spaced.{Put, text_in, AreSpaced, SpacedReadsBack}
use Rattle.psg_unparse.specs.Spans.{printed_of}
use Rattle.psg_unparse.specs.Spots.{Placed, placed_in}
use Rattle.psg_layout.specs.declared.layout.Layout.{Layout}
use Rattle.psg_layout.specs.Arranged.{arranged_in, arranged_puts}
use Rattle.psg_layout.specs.PutSpans.{own_puts, span_in}

-- the text of tokens without the gap in front of the first of them
abbrev pub own_text : List Put → List ℕ
own_text [] = []
own_text (p ∷ puts) = p.text ++ text_in puts

-- The tokens of a node are among those of the whole text, in order, and the bytes from its start to its end are theirs.
pub record HasOwnBytes (def : Definition) (puts : List Put) (p : Placed) : Type 0 where
  pub tokens : AreSpaced (last_in None p.spot.before) (row def p.node) (own_puts def puts p)
  pub bytes : part_of (span_in def puts p).start (span_in def puts p).end (text_in puts)
      ≡ own_text (own_puts def puts p)

module _ (def : Definition) (layout : Layout) where
  -- the tokens of the arranged text are those of the tree, in order, and its gaps keep them apart
  abbrev pub ArrangesSpaced : Type 0
  ArrangesSpaced = (cols : ℕ) (f : Fragment) → AreSpaced None (row def f) (arranged_puts def layout cols f)

  -- the span of each node has the tokens of the node
  abbrev pub SpansAreOwn : Type 0
  SpansAreOwn =
      (cols : ℕ) (f : Fragment)
      → AllByRecursion (HasOwnBytes def (arranged_puts def layout cols f)) (placed_in def f)

  -- the arranged text of a printable tree reads back as the tree, and has the tokens of its plain text
  abbrev pub ReadsBackArranged : ℕ → Fragment → Type 0
  ReadsBackArranged cols f =
      IsPrintable f → (kind : Kind) → WellFormed def f kind
      → SpacedReadsBack def f kind (arranged_puts def layout cols f)

  -- without breaks all is printed as in the plain text, whatever the groups are
  abbrev pub IsPlainWithoutBreaks : Type 0
  IsPlainWithoutBreaks =
      layout.breaks ≡ [] → (cols : ℕ) (f : Fragment) → arranged_in def layout cols f ≡ printed_of def f
