use Rattle.std.proofs.Common.{length}
use Rattle.psg_eval.proofs.PlaceLists.{AreFilledFrom}
use Rattle.psg_eval.proofs.WalkSteps.{IsPlacedUpTo}
use Rattle.psg_eval.proofs.placing.key_columns.Given as goal

abbrev pub invariant-loop-place : goal.invariant-loop-place
invariant-loop-place l = record {
  placed : IsPlacedUpTo l.joined.header.names l.lefts l.rights l.left l.right l.offset l.made l.place;
  filled : AreFilledFrom (length l.joined.header.names) l.lefts l.rights l.made l.place;
}
