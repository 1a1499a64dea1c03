use Rattle.std.proofs.Common.{◌≡◌, ◌++◌, drop}
use Rattle.psg_eval.specs.OwnRows.{positions}
use Rattle.psg_explain.proofs.own_rows.positions.Given as goal

abbrev pub invariant-loop-item : goal.invariant-loop-item
invariant-loop-item l = l.found.items ++ positions (drop l.item-index l.items) (drop l.next l.names) ≡ positions l.items l.names
