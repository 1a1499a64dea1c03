use Rattle.std.proofs.Common.{◌≡◌}
use Rattle.psg_relation.specs.Texts.{rows_in}
use Rattle.psg_relation.proofs.order.without_texts.Given as goal

abbrev pub invariant-loop-one : goal.invariant-loop-one
invariant-loop-one l = l.rows.items ≡ rows_in l.yielded
