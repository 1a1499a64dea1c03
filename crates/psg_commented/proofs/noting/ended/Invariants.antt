use Rattle.std.proofs.Common.{◌≡◌, ◌+◌, drop}
use Rattle.psg_commented.specs.Noting.{ended_by}
use Rattle.psg_commented.proofs.noting.ended.Given as goal

abbrev pub invariant-loop-passed : goal.invariant-loop-passed
invariant-loop-passed l = ended_by l.tokens l.place ≡ l.passed + ended_by (drop l.passed l.tokens) l.place
