use Rattle.std.proofs.Common.{◌≡◌, ◌++◌, take}
use Rattle.psg_commented.specs.Printing.{on_lines}
use Rattle.psg_commented.proofs.printing.push_lines.Given as goal

abbrev pub invariant-loop-note : goal.invariant-loop-note
invariant-loop-note l = l.out.items ≡ l.initial.out.items ++ on_lines l.level (take l.note-index l.notes)
