use Rattle.std.proofs.Common.{take}
use Rattle.psg_stop.proofs.Runs.{AreBounded}
use Rattle.psg_stop.proofs.naming.longest.Given as goal

abbrev pub invariant-loop-text : goal.invariant-loop-text
invariant-loop-text l = AreBounded l.longest (take l.text-index l.texts)
