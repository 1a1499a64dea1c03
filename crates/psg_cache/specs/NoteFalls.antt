-- The notes of the children are nested less than the note.
use Rattle.std.specs.Prelude.{◌+◌, ◌≤◌, max}
use Rattle.std.proofs.Common.{arith}
use denote.Param.Weighed.{most}
use Rattle.psg_cache.specs.Annotated.{nested}
use Rattle.psg_cache.specs.Noting.{annotated_of, most_le-nested}
use Rattle.psg_cache.specs.declared.note.NoteNode.{NoteNode}
use Rattle.psg_cache.specs.declared.note.Note.TheDeep.{deep-NoteNode}

pub noted_le-nested : (n : NoteNode) → max (deep-NoteNode n) 0 ≤ nested (annotated_of n)
noted_le-nested n =
    let h : max (most (λ k. nested k + 1) n.below) 0 ≤ nested (annotated_of n) = omega (arith, most_le-nested n) in
    let g : deep-NoteNode n ≤ nested (annotated_of n) = h in
    omega (arith, g)
