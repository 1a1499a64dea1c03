use Rattle.std.proofs.Common.{take}
use Rattle.psg_defcheck.proofs.GroundLaws.{IsRound}
use Rattle.psg_defcheck.proofs.ground.mark_more.Given as goal

abbrev pub invariant-loop-entry : goal.invariant-loop-entry
invariant-loop-entry l = IsRound l.scope l.initial.marks l.marks l.entries (take l.entry-index l.entries) l.more
