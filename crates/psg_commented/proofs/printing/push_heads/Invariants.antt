use Rattle.std.proofs.Common.{◌≡◌, ◌++◌, take}
use Rattle.psg_commented.specs.Printing.{heads}
use Rattle.psg_commented.proofs.printing.push_heads.Given as goal

abbrev pub invariant-loop-note : goal.invariant-loop-note
invariant-loop-note l = l.out.items ≡ l.initial.out.items ++ heads (take l.note-index l.notes)
