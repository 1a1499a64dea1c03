use Rattle.std.proofs.Common.{◌≡◌}
use Rattle.psg_recover.specs.Candidates.{own_wanted}
use Rattle.psg_recover.proofs.recovery.own_only.Given as goal

abbrev pub invariant-loop-one : goal.invariant-loop-one
invariant-loop-one l = l.wanted.items ≡ own_wanted l.known.definition.now l.yielded
