use Rattle.std.proofs.Common.{◌-◌}
use Rattle.psg_explain.specs.Reached.{IsSpan}
use Rattle.psg_explain.proofs.last.first_failing.Given as goal

abbrev pub invariant-loop-span : goal.invariant-loop-span
invariant-loop-span l = IsSpan l.given l.span

abbrev pub decreases-loop-span : goal.decreases-loop-span
decreases-loop-span l = l.span.high - l.span.low
