use Rattle.psg_modes.proofs.CharLaws.{IsTaken}
use Rattle.psg_modes.proofs.node_text.chars_between.Given as goal

abbrev pub invariant-loop-c : goal.invariant-loop-c
invariant-loop-c l = IsTaken l.start l.end l.yielded l.all.items l.byte
