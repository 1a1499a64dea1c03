use Rattle.std.proofs.Common.{◌≡◌, take}
use Rattle.psg_tree.specs.Shapes.{put_element}
use Rattle.psg_tree.proofs.places.with_element.Given as goal

abbrev pub invariant-loop-i : goal.invariant-loop-i
invariant-loop-i l = l.made.items ≡ put_element l.new l.number (take l.i l.elements)
