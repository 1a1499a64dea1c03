use Rattle.psg_stop.specs.Wanted.{wanted_terminal}
use Rattle.psg_program.proofs.Told.{IsLeft}
use Rattle.psg_program.proofs.expected.is_among.Given as goal

abbrev pub invariant-loop-other : goal.invariant-loop-other
invariant-loop-other l = IsLeft (wanted_terminal l.one) l.all l.other-index
