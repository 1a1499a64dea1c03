use Rattle.std.proofs.Common.{◌≡◌, length}
use Rattle.psg_picture.specs.Marked.{is_in_any}
use Rattle.psg_picture.proofs.marks.is_in_any.Given as goal

abbrev pub decreases-places : goal.decreases-places
decreases-places l = length l.rest

abbrev pub invariant-places : goal.invariant-places
invariant-places l = is_in_any l.all l.byte ≡ is_in_any l.rest l.byte
