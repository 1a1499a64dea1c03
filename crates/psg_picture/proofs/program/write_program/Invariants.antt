use Rattle.std.proofs.Common.{map}
use Rattle.psg_picture.proofs.MarkedLaws.{HasWalked}
use Rattle.psg_picture.proofs.program.write_program.Given as goal

abbrev pub invariant-loop-line : goal.invariant-loop-line
invariant-loop-line l = HasWalked l.view l.marks l.initial.sketch l.sketch (map (λ line. line.now) l.yielded) l.number l.byte
