use Rattle.std.proofs.Common.{◌≡◌, drop}
use Rattle.psg_protocol.specs.Headers.{number_after}
use Rattle.psg_protocol.proofs.headers.number_of.Given as goal

abbrev pub invariant-loop-digit : goal.invariant-loop-digit
invariant-loop-digit l = number_after 0 l.digits ≡ number_after l.number (drop l.digit-index l.digits)
