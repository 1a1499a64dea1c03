use Rattle.std.proofs.Common.{◌≡◌, length}
use Rattle.psg_unparse.specs.Rows.{from_part}
use Rattle.psg_textedit.proofs.places.from_part.Given as goal

abbrev pub invariant-loop-item : goal.invariant-loop-item
invariant-loop-item l = from_part l.rest ≡ from_part l.items

abbrev pub decreases-loop-item : goal.decreases-loop-item
decreases-loop-item l = length l.rest
