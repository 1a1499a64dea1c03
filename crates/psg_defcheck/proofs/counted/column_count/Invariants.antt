use Rattle.std.proofs.Common.{◌≡◌, ◌≤◌, take}
use Rattle.psg_defcheck.specs.Meanings as meanings
use Rattle.psg_defcheck.proofs.counted.column_count.Given as goal

abbrev pub invariant-loop-item : goal.invariant-loop-item
invariant-loop-item l = (l.count ≤ l.item-index) × (l.count ≡ meanings.count_of meanings.has_column (take l.item-index l.items))
