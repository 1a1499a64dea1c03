use Rattle.psg_scope.proofs.HeaderLaws.{IsKeptSoFar}
use Rattle.psg_scope.proofs.closing.close_region.Given as goal

abbrev pub invariant-loop-i : goal.invariant-loop-i
invariant-loop-i l = IsKeptSoFar l.all l.unfinished l.i l.names.items l.kept.items
