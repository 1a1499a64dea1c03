use Rattle.std.proofs.Common.{◌≡◌, ◌++◌, length}
use Rattle.psg_picture.specs.Pictures.{of_pieces}
use Rattle.psg_picture.proofs.around.push_pieces.Given as goal

abbrev pub decreases-pieces : goal.decreases-pieces
decreases-pieces l = length l.rest

abbrev pub invariant-pieces : goal.invariant-pieces
invariant-pieces l = l.row.items ++ of_pieces l.rest ≡ l.initial.row.items ++ of_pieces l.pieces
