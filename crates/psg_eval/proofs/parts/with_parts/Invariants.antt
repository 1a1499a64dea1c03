use Rattle.std.proofs.Common.{ℕ, ◌≡◌, ◌≤◌, ◌+◌, take}
use Rattle.psg_eval.specs.Work.{AreJoined}
use Rattle.psg_eval.proofs.PatternSteps.{IsPutUpTo}
use Rattle.psg_eval.proofs.parts.with_parts.Given as goal

abbrev pub invariant-loop-i : goal.invariant-loop-i
invariant-loop-i l =
    IsPutUpTo l.definition l.children l.fn.first l.partial l.i × (l.room.left ≤ l.initial.room.left)
    × ((work : ℕ) × AreJoined l.definition l.fn.first (take l.i l.children) l.partial work × (l.initial.room.left ≡ l.room.left + work))
