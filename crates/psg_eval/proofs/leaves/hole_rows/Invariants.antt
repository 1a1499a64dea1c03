use Rattle.std.proofs.Common.{take}
use Rattle.psg_eval.proofs.LeafRows.{AreOfKind}
use Rattle.psg_eval.proofs.leaves.hole_rows.Given as goal

abbrev pub invariant-loop-row : goal.invariant-loop-row
invariant-loop-row l = AreOfKind (take l.row-index l.row-items) l.kind l.rows.items
