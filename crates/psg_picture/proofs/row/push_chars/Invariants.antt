use Rattle.std.proofs.Common.{◌≡◌, ◌++◌, length}
use Rattle.psg_picture.specs.Rows.{in_style, plain}
use Rattle.psg_picture.proofs.row.push_chars.Given as goal

abbrev pub decreases-chars : goal.decreases-chars
decreases-chars l = length l.rest

abbrev pub invariant-chars : goal.invariant-chars
invariant-chars l = l.row.items ++ in_style plain l.rest ≡ l.initial.row.items ++ in_style plain l.chars
