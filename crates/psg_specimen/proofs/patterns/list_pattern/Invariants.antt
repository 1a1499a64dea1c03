use Rattle.std.proofs.Common.{length, ◌-◌}
use Rattle.psg_specimen.specs.Patterns.{SuitsRest}
use Rattle.psg_specimen.proofs.PatternLaws.{IsFrom}
use Rattle.psg_specimen.proofs.patterns.list_pattern.Given as goal

abbrev pub invariant-loop-step : goal.invariant-loop-step
invariant-loop-step l = SuitsRest l.definition l.list l.behind × IsFrom l.definition l.list l.elements l.fn.end (length l.elements - l.step) l.behind
