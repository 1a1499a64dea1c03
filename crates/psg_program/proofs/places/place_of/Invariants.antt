use Rattle.std.proofs.Common.{◌≡◌, ◌+◌, ◌≤◌, length}
use Rattle.std.specs.Prelude.{chars}
use denote.Text.{Utf8}
use denote.Shadow.{shadow}
use Rattle.psg_program.specs.Places.{begun, column_after, line_after}
use Rattle.psg_program.proofs.places.place_of.Given as goal

abbrev pub invariant-loop-first : goal.invariant-loop-first
invariant-loop-first l = shadow (Utf8 l.rest) × (l.line + length l.rest ≤ 1 + length l.text)
    × (l.column + length l.rest ≤ 1 + length l.text)
    × (line_after l.line (begun l.left (chars l.rest)) ≡ line_after 1 (begun l.byte (chars l.text)))
    × (column_after l.column (begun l.left (chars l.rest)) ≡ column_after 1 (begun l.byte (chars l.text)))

abbrev pub decreases-loop-first : goal.decreases-loop-first
decreases-loop-first l = length l.rest
