use Rattle.std.proofs.Common.{◌≡◌, length}
use Rattle.psg_protocol.specs.Headers.{without_front_blanks}
use Rattle.psg_protocol.proofs.headers.without_front_blanks.Given as goal

abbrev pub invariant-front : goal.invariant-front
invariant-front l = without_front_blanks l.text ≡ without_front_blanks l.rest

abbrev pub decreases-front : goal.decreases-front
decreases-front l = length l.rest
