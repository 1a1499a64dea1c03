use Rattle.std.proofs.Common.{◌≡◌, map, take}
use Rattle.psg_defread.specs.WrittenLines.{tree_written}
use Rattle.psg_defread.proofs.WriteLaws.{AreWritten}
use Rattle.psg_defread.proofs.specimens.+tree.Given as goal

abbrev pub invariant-tree_written-loop-i : goal.invariant-tree_written-loop-i
invariant-tree_written-loop-i l = AreWritten l.definition l.written.items (take l.i l.parts)

abbrev pub invariant-tree_written-loop-i-2 : goal.invariant-tree_written-loop-i-2
invariant-tree_written-loop-i-2 l = l.written.items ≡ map (tree_written l.definition) (take l.i l.elements)
