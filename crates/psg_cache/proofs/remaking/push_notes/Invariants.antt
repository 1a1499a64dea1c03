use Rattle.std.proofs.Common.{◌≡◌, ◌++◌, take}
use Rattle.psg_cache.proofs.remaking.push_notes.Given as goal

abbrev pub invariant-loop-note : goal.invariant-loop-note
invariant-loop-note l = l.made.items ≡ l.initial.made.items ++ take l.note-index l.notes
