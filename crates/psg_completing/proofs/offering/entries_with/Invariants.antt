use Rattle.std.proofs.Common.{◌≡◌, ◌++◌, drop}
use Rattle.std.specs.Prelude.{map}
use Rattle.psg_completing.specs.Offering.{entries_with, entry}
use Rattle.psg_completing.specs.Samples.{sample_text}
use Rattle.psg_completing.proofs.offering.entries_with.Given as goal

abbrev pub invariant-loop-place : goal.invariant-loop-place
invariant-loop-place l =
    l.entries.items ++ map (λ name. entry l.operator.name (sample_text l.open.known.program.language.now l.open.least name l.op))
    (drop l.place l.names)
    ≡ entries_with l.open.known.program.language.now l.open.least l.operator.name l.op l.names
