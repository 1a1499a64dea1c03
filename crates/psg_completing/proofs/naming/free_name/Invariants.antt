use Rattle.std.proofs.Common.{◌-◌, length, suc}
use Rattle.std.specs.Prelude.{string_bytes}
use Rattle.psg_completing.proofs.SampleNames.{IsSoFar, total}
use Rattle.psg_completing.proofs.naming.free_name.Given as goal

abbrev pub invariant-strokes : goal.invariant-strokes
invariant-strokes l = IsSoFar l.lexis (string_bytes l.name)

abbrev pub decreases-strokes : goal.decreases-strokes
decreases-strokes l = suc (total l.lexis) - length (string_bytes l.name)
