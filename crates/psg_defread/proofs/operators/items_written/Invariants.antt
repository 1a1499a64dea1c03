use Rattle.std.proofs.Common.{◌≡◌, ◌++◌, map, drop}
use Rattle.psg_defread.specs.WrittenLines.{item_written}
use Rattle.psg_defread.proofs.operators.items_written.Given as goal

abbrev pub invariant-loop-i : goal.invariant-loop-i
invariant-loop-i l = l.written.items ++ map (item_written l.definition) (drop l.i l.items) ≡ map (item_written l.definition) l.items
