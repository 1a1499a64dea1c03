use Rattle.std.proofs.Common.{◌≡◌}
use Rattle.psg_relation.specs.Texts.{rows_in, AreTexts}
use Rattle.psg_relation.proofs.order.with_texts.Given as goal

abbrev pub invariant-loop-row : goal.invariant-loop-row
invariant-loop-row l = (rows_in l.printed.items ≡ l.yielded) × AreTexts l.sig l.printed.items
