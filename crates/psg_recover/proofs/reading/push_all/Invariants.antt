use Rattle.std.proofs.Common.{◌≡◌, ◌++◌, drop}
use Rattle.psg_recover.proofs.reading.push_all.Given as goal

abbrev pub invariant-loop-token : goal.invariant-loop-token
invariant-loop-token l = l.row.items ++ drop l.token-index l.tokens ≡ l.fn.row.items ++ l.tokens
