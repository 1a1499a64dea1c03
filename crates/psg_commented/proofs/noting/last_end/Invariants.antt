use Rattle.std.proofs.Common.{◌≡◌, drop}
use Rattle.psg_commented.specs.Noting.{end_of_last}
use Rattle.psg_commented.proofs.noting.last_end.Given as goal

abbrev pub invariant-loop-token : goal.invariant-loop-token
invariant-loop-token l = end_of_last l.end (drop l.token-index l.tokens) ≡ end_of_last 0 l.tokens
