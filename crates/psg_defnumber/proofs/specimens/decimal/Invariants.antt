use Rattle.std.proofs.Common.{◌≡◌, ◌+◌, ◌*◌, ◌^◌, true, length}
use Rattle.std.specs.List.{list_all}
use Rattle.psg_grammar.specs.Sound.{is_digit}
use Rattle.psg_lexis.specs.Tokens.{value_of}
use Rattle.psg_defnumber.proofs.specimens.decimal.Given as goal

abbrev pub invariant-loop-digit : goal.invariant-loop-digit
invariant-loop-digit l = (list_all is_digit l.rest ≡ true) × (l.value * 10 ^ length l.rest + value_of l.rest ≡ value_of l.digits)

abbrev pub decreases-loop-digit : goal.decreases-loop-digit
decreases-loop-digit l = length l.rest
