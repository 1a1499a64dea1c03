use Rattle.std.proofs.Common.{◌≡◌, take}
use Rattle.psg_relation.specs.Choices.{all_picked}
use Rattle.psg_relation.proofs.projection.all_columns.Given as goal

abbrev pub invariant-loop-row : goal.invariant-loop-row
invariant-loop-row l = l.made.items ≡ all_picked (take l.row-index l.rows) l.keep
