use Rattle.std.proofs.Common.{◌≡◌, ◌+◌, ◌*◌, ◌^◌, ◌<◌, chars, length}
use denote.Text.{Utf8}
use denote.Shadow.{shadow}
use Rattle.psg_lexis.specs.Classes.{is_digit, All}
use Rattle.psg_lexis.specs.Tokens.{value_of}
use Rattle.psg_lexis.proofs.lexer.decimal.Given as goal

abbrev pub invariant-loop-digit : goal.invariant-loop-digit
invariant-loop-digit l = shadow (Utf8 l.rest) × All is_digit (chars l.rest) × (l.value < 2 ^ 128)
    × (l.value * 10 ^ length (chars l.rest) + value_of (chars l.rest) ≡ value_of (chars l.digits))

abbrev pub decreases-loop-digit : goal.decreases-loop-digit
decreases-loop-digit l = length l.rest
