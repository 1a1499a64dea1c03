use Rattle.std.proofs.Common.{◌≡◌, take}
use Rattle.psg_relation.specs.Choices.{picked}
use Rattle.psg_relation.proofs.projection.kept_columns.Given as goal

abbrev pub invariant-loop-i : goal.invariant-loop-i
invariant-loop-i l = l.terms.items ≡ picked l.row (take l.i l.keep)
