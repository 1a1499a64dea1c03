-- What the program's notes represent.
use Rattle.std.specs.Prelude.{◌+◌, ◌≤◌, max, List, [], ◌∷◌}
use Rattle.std.proofs.Common.{arith}
use denote.Param.Weighed.{most}
use Rattle.psg_cache.specs.Annotated.{Annotated, topped, above, with_below, nested}
use Rattle.psg_cache.specs.declared.note.NoteNode.{NoteNode}

abbrev pub annotated_of : NoteNode → Annotated
annotated_of n = with_below (topped n.tree n.whole n.rests n.weight) n.below

-- the notes of the children are nested less
pub most_le-with : (n : Annotated) (cs : List Annotated)
    → max (nested n) (most (λ k. nested k + 1) cs) ≤ nested (with_below n cs)
most_le-with n [] = omega arith
most_le-with n (c ∷ cs) = omega (arith, most_le-with (above n c) cs)

pub most_le-nested : (n : NoteNode) → most (λ k. nested k + 1) n.below ≤ nested (annotated_of n)
most_le-nested n = omega (arith, most_le-with (topped n.tree n.whole n.rests n.weight) n.below)
