use Rattle.std.proofs.Common.{◌≡◌, List, length, map}
use Rattle.psg_unparse.specs.Spaced.{Put, text_in}
use Rattle.psg_layout.specs.Sheets.{extents}
use Rattle.psg_layout.specs.Walking.{span_by}
use Rattle.psg_layout.proofs.nodes.spans_of.Given as goal

abbrev pub invariant-loop-node : goal.invariant-loop-node
invariant-loop-node l = (puts : List Put) → l.tokens ≡ extents 0 puts → l.bytes ≡ length (text_in puts) → l.spans.items ≡ map (span_by puts) l.yielded
