use Rattle.std.proofs.Common.{◌≡◌, take}
use Rattle.psg_keeping.specs.Writing.{counted_of}
use Rattle.psg_keeping.proofs.tokens.counted_in.Given as goal

abbrev pub invariant-loop-token : goal.invariant-loop-token
invariant-loop-token l = l.counted.items ≡ counted_of (take l.token-index l.tokens)
