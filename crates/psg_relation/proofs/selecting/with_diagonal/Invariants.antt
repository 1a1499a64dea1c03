use Rattle.std.proofs.Common.{◌≡◌}
use Rattle.psg_relation.specs.Selecting.{diagonal}
use Rattle.psg_relation.proofs.selecting.with_diagonal.Given as goal

abbrev pub invariant-loop-column : goal.invariant-loop-column
invariant-loop-column l = l.all.items ≡ diagonal 0 l.column
