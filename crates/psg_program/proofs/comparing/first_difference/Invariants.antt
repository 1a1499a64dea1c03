use Rattle.std.proofs.Common.{◌+◌, ◌≤◌, length}
use denote.Text.{Utf8}
use denote.Shadow.{shadow}
use Rattle.psg_program.proofs.SamePieces.{HaveSame}
use Rattle.psg_program.proofs.comparing.first_difference.Given as goal

abbrev pub invariant-lines : goal.invariant-lines
invariant-lines l = shadow (Utf8 l.left) × (l.line + length l.rest ≤ 1 + length l.bytes)
    × HaveSame l.bytes l.wanted l.rest l.left l.line

abbrev pub decreases-lines : goal.decreases-lines
decreases-lines l = length l.rest
