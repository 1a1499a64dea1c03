use Rattle.std.proofs.Common.{◌≡◌, ◌≤◌, ◌+◌, chars, length}
use denote.Text.{Utf8}
use denote.Shadow.{shadow}
use Rattle.psg_lexis.specs.Tokens.{bytes_of}
use Rattle.psg_comments.specs.Finding.{line_of}
use Rattle.psg_comments.proofs.finding.line_size.Given as goal

abbrev pub invariant-loop-after : goal.invariant-loop-after
invariant-loop-after l = shadow (Utf8 l.rest) × (length l.rest ≤ length l.text)
    × (length l.text + bytes_of (line_of (chars l.rest)) ≡ length l.rest + bytes_of (line_of (chars l.text)))

abbrev pub decreases-loop-after : goal.decreases-loop-after
decreases-loop-after l = length l.rest
