use Rattle.std.proofs.Common.{drop}
use Rattle.psg_completing.specs.Fillings.{Fits}
use Rattle.psg_completing.proofs.Fits.{IsLeft}
use Rattle.psg_completing.proofs.fitting.first_fit.Given as goal

abbrev pub invariant-loop-number : goal.invariant-loop-number
invariant-loop-number g l = IsLeft (Fits l.language l.kind l.own l.word) l.row (drop l.number l.row)
