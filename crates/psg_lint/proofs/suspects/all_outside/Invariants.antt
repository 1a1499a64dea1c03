use Rattle.psg_lint.proofs.SuspectLaws.{AreOutsideTo}
use Rattle.psg_lint.proofs.suspects.all_outside.Given as goal

abbrev pub invariant-loop-number : goal.invariant-loop-number
invariant-loop-number l = AreOutsideTo l.wrong.kept.now l.wrong.places.now l.path l.number
