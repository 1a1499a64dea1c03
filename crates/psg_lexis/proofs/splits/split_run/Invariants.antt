use Rattle.std.proofs.Common.{length}
use denote.Text.{Utf8}
use denote.Shadow.{shadow}
use Rattle.psg_lexis.specs.Splits.{takes}
use Rattle.psg_lexis.proofs.Runs.{HasRun}
use Rattle.psg_lexis.proofs.splits.split_run.Given as goal

abbrev pub invariant-loop-first : goal.invariant-loop-first
invariant-loop-first l = shadow (Utf8 l.rest) × HasRun (takes l.run) l.text l.rest

abbrev pub decreases-loop-first : goal.decreases-loop-first
decreases-loop-first l = length l.rest
