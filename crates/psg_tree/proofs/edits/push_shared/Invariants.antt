use Rattle.std.proofs.Common.{◌≡◌, ◌++◌, take}
use Rattle.psg_tree.proofs.edits.push_shared.Given as goal

abbrev pub invariant-loop-element : goal.invariant-loop-element
invariant-loop-element l = l.made.items ≡ l.initial.made.items ++ take l.element-index l.elements
