use Rattle.std.proofs.Common.{◌-◌, ◌≤◌, length}
use Rattle.psg_program.proofs.Sorting.{IsPast}
use Rattle.psg_program.proofs.words.place_for.Given as goal

abbrev pub invariant-loop-place : goal.invariant-loop-place
invariant-loop-place l = (l.place ≤ length l.words) × IsPast l.word l.words l.place

abbrev pub decreases-loop-place : goal.decreases-loop-place
decreases-loop-place l = length l.words - l.place
