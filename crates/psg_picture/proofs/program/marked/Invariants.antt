use Rattle.psg_picture.proofs.MarkedLaws.{IsMarked}
use Rattle.psg_picture.proofs.program.marked.Given as goal

abbrev pub invariant-loop-c : goal.invariant-loop-c
invariant-loop-c l = IsMarked l.marks l.start l.yielded l.row.items l.byte
