use Rattle.std.proofs.Common.{◌≡◌, take}
use Rattle.psg_eval.specs.Frames.{put_at}
use Rattle.psg_eval.proofs.climbing.with_summary.Given as goal

abbrev pub invariant-loop-i : goal.invariant-loop-i
invariant-loop-i l = l.all.items ≡ take l.i (put_at l.hot l.own l.children)
