use Rattle.std.proofs.Common.{◌≡◌, ◌+◌, [], length}
use Rattle.psg_eval.specs.Frames.{CanClimb, rungs}
use Rattle.psg_eval.specs.Summaries.{IsSummary}
use Rattle.psg_eval.proofs.FrameLaws.{Climbs}
use Rattle.psg_eval.proofs.climbing.climb_from.Given as goal

-- the node that the frames left are around is known
abbrev pub invariant-loop-frame : goal.invariant-loop-frame
invariant-loop-frame g l =
    record {
      climbs : Climbs l.definition l.frames l.own l.whole l.left;
      usual : IsSummary l.definition l.whole;
      can : CanClimb l.definition l.left l.whole.kind;
      seen : l.whole.seen ≡ l.own.seen;
      nothing : l.frames ≡ [] → (l.left ≡ []) × (l.whole ≡ l.own);
      counted : l.steps + rungs l.left ≡ l.fn.steps + rungs l.frames;
    }

abbrev pub decreases-loop-frame : goal.decreases-loop-frame
decreases-loop-frame g l = length l.left
