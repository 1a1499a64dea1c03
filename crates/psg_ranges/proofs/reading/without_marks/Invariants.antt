use Rattle.std.proofs.Common.{◌≡◌, length}
use Rattle.psg_class.specs.Places.{solid}
use Rattle.psg_ranges.proofs.reading.without_marks.Given as goal

abbrev pub invariant-loop-first : goal.invariant-loop-first
invariant-loop-first l = solid l.left ≡ solid l.items

abbrev pub decreases-loop-first : goal.decreases-loop-first
decreases-loop-first l = length l.left
