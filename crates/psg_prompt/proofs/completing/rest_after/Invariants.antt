use Rattle.std.proofs.Common.{◌≡◌, drop}
use Rattle.psg_prompt.specs.Completing.{rest_after}
use Rattle.psg_prompt.proofs.completing.rest_after.Given as goal

abbrev pub invariant-loop-place : goal.invariant-loop-place
invariant-loop-place l = rest_after (drop l.place l.typed) l.rest ≡ rest_after l.typed l.word
