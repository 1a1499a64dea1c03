use Rattle.psg_picture.proofs.ScrollLaws.{IsCounted}
use Rattle.psg_picture.proofs.scrolling.column_of.Given as goal

abbrev pub invariant-loop-c : goal.invariant-loop-c
invariant-loop-c l = IsCounted l.from l.to l.yielded l.column l.byte
