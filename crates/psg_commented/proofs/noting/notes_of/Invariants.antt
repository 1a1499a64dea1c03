use Rattle.std.proofs.Common.{◌≡◌, take, map}
use Rattle.psg_commented.specs.Noting.{note_of}
use Rattle.psg_commented.specs.Steps.{IsPassed}
use Rattle.psg_commented.proofs.noting.notes_of.Given as goal

abbrev pub invariant-loop-comment : goal.invariant-loop-comment
invariant-loop-comment l =
    IsPassed l.tokens l.passed × (l.notes.items ≡ map (note_of l.text l.tokens) (take l.comment-index l.comments))
