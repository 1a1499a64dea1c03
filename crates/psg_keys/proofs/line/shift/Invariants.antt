use Rattle.psg_keys.proofs.LineLaws.{IsMoved}
use Rattle.psg_keys.proofs.line.shift.Given as goal

abbrev pub invariant-moving : goal.invariant-moving
invariant-moving l = IsMoved l.initial.text l.from l.to l.text l.place l.source
