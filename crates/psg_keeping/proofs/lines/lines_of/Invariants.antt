use Rattle.std.proofs.Common.{◌≡◌, ◌++◌, drop}
use Rattle.psg_keeping.specs.Writing.{lines_from}
use Rattle.psg_keeping.proofs.lines.lines_of.Given as goal

abbrev pub invariant-loop-token : goal.invariant-loop-token
invariant-loop-token l = l.lines.items ++ lines_from l.text l.from (drop l.token-index l.tokens) ≡ lines_from l.text 0 l.tokens
