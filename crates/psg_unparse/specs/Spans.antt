-- The bytes on which the nodes of a tree are written.
use Rattle.std.specs.Prelude.{◌+◌, ◌++◌, [], length, map}
use Rattle.psg_grammar.specs.declared.types.Definition.{Definition}
use Rattle.psg_grammar.specs.Fragments.{Fragment}
use Rattle.psg_unparse.specs.Rows.{row}
use Rattle.psg_unparse.specs.Layout.{laid, lead, text_of}
use Rattle.psg_unparse.specs.Spots.{Placed, placed_in}
use Rattle.psg_unparse.specs.declared.spans.Span.{Span}
use Rattle.psg_unparse.specs.declared.spans.Printed.{Printed}

module _ (def : Definition) where
  -- From the first byte of its first token to after the last byte of its last one. The span of a node without tokens is
  -- empty, where the token before it ends. Brackets around the node are not in its span.
  abbrev pub span_of : Placed → Span
  span_of p = record {
    path = p.spot.path;
    start = length (laid [] p.spot.before) + length (lead p.spot.before (row def p.node));
    end = length (laid [] (p.spot.before ++ row def p.node));
  }

  abbrev pub printed_of : Fragment → Printed
  printed_of f = record { text = text_of def f; spans = map span_of (placed_in def f) }
