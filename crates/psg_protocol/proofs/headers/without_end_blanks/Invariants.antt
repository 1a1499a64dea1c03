use Rattle.std.proofs.Common.{◌≡◌, length}
use Rattle.psg_protocol.specs.Headers.{without_end_blanks}
use Rattle.psg_protocol.proofs.headers.without_end_blanks.Given as goal

abbrev pub invariant-back : goal.invariant-back
invariant-back l = without_end_blanks l.text ≡ without_end_blanks l.rest

abbrev pub decreases-back : goal.decreases-back
decreases-back l = length l.rest
