use Rattle.std.proofs.Common.{◌≡◌, take}
use Rattle.psg_class.specs.Shapes.{parts_of}
use Rattle.psg_class.proofs.shape.read_parts.Given as goal

abbrev pub invariant-loop-item : goal.invariant-loop-item
invariant-loop-item l = l.made.items ≡ parts_of l.vocabulary.base l.vocabulary.words.items (take l.item-index l.items)
