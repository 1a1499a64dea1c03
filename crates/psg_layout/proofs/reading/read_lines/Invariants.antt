use Rattle.psg_layout.proofs.LastLaws.{AreRead}
use Rattle.psg_layout.proofs.reading.read_lines.Given as goal

abbrev pub invariant-loop-text : goal.invariant-loop-text
invariant-loop-text l = AreRead l.definition l.texts l.text-index l.line l.read
