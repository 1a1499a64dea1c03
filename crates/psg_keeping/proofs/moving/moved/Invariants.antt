use Rattle.std.proofs.Common.{◌≡◌, ◌++◌, drop}
use Rattle.psg_keeping.specs.Moving.{moved}
use Rattle.psg_keeping.proofs.moving.moved.Given as goal

abbrev pub invariant-loop-note : goal.invariant-loop-note
invariant-loop-note l = l.new.items ++ moved l.low l.steps l.lines (drop l.note-index l.notes) ≡ moved 0 l.steps l.lines l.notes
