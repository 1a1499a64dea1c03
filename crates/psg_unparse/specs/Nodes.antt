-- That each node of a printed tree reads back from the bytes on which it is written.
use Rattle.std.specs.Prelude.{ℕ, ◌+◌, ◌-◌, List, [], ◌++◌, length, take, drop}
use Rattle.std.specs.List.{AllByRecursion}
use Rattle.psg_grammar.specs.declared.types.Kind.{Kind}
use Rattle.psg_grammar.specs.declared.types.Definition.{Definition}
use Rattle.psg_grammar.specs.Fragments.{Fragment}
use Rattle.psg_grammar.specs.Printable.{IsPrintable}
use Rattle.psg_grammar.specs.WellFormed.{WellFormed}
use Rattle.psg_class.specs.Texts.{ReadsAs}
use Rattle.psg_unparse.specs.Rows.{row}
use Rattle.psg_unparse.specs.Layout.{laid, lead, text_of}
use Rattle.psg_unparse.specs.Spots.{Placed, placed_in}

-- the bytes from a up to b
abbrev pub part_of : ℕ → ℕ → List ℕ → List ℕ
part_of a b text = take (b - a) (drop a text)

module _ (def : Definition) where
  -- the place of the first byte of a node's first token, and the place after the last byte of its last one; where a
  -- node has no token, both are the end of the token before it
  abbrev pub start_of : Placed → ℕ
  start_of p = length (laid [] p.spot.before) + length (lead p.spot.before (row def p.node))

  abbrev pub end_of : Placed → ℕ
  end_of p = length (laid [] (p.spot.before ++ row def p.node))

  -- The bytes of the node read as the node, at the level that is wanted there.
  abbrev pub NodeReadsBack : Fragment → Placed → Type 0
  NodeReadsBack f p =
      (kind : Kind) × (nesting : ℕ)
      × ReadsAs def kind p.spot.level (part_of (start_of p) (end_of p) (text_of def f)) p.node nesting

  abbrev pub NodesReadBackIfPrintable : Fragment → Type 0
  NodesReadBackIfPrintable f =
      IsPrintable f → (kind : Kind) → WellFormed def f kind → AllByRecursion (NodeReadsBack f) (placed_in def f)
