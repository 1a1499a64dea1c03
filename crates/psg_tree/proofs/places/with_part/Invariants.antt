use Rattle.std.proofs.Common.{◌≡◌, length, take}
use Rattle.psg_tree.specs.Shapes.{put_part, subtrees}
use Rattle.psg_tree.proofs.places.with_part.Given as goal

abbrev pub invariant-loop-part : goal.invariant-loop-part
invariant-loop-part l =
    (l.made.items ≡ put_part l.new l.number (take l.part-index l.parts))
    × (l.seen ≡ length (subtrees (take l.part-index l.parts)))
