use Rattle.psg_defcheck.specs.Grounds.{AreRight}
use Rattle.psg_defcheck.proofs.ground.mark_in_turn.Given as goal

abbrev pub invariant-loop : goal.invariant-loop
invariant-loop l = AreRight l.scope l.initial.marks → AreRight l.scope l.marks
