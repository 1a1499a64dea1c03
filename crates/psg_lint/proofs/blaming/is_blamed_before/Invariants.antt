use Rattle.psg_lint.proofs.TellLaws.{AreNoneBefore}
use Rattle.psg_lint.proofs.blaming.is_blamed_before.Given as goal

abbrev pub invariant-loop-earlier : goal.invariant-loop-earlier
invariant-loop-earlier l = AreNoneBefore l.wrong.kept.now l.wrong.places.now l.list l.earlier
