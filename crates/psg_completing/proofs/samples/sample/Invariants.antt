use Rattle.std.proofs.Common.{◌≡◌, drop}
use Rattle.psg_grammar.specs.Fragments.{operator}
use Rattle.psg_tree.specs.Shapes.{with_parts}
use Rattle.psg_completing.specs.Samples.{sample, with_samples}
use Rattle.psg_completing.proofs.samples.sample.Given as goal

abbrev pub invariant-loop-place : goal.invariant-loop-place
invariant-loop-place l =
    with_samples l.definition l.name (with_parts (operator l.op) l.parts.items) (drop l.place l.items)
    ≡ sample l.definition l.name l.op
