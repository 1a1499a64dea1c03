use Rattle.psg_specimen.proofs.OverLaws.{AllOver}
use Rattle.psg_specimen.proofs.cases.cases_for.Given as goal

abbrev pub invariant-loop-number : goal.invariant-loop-number
invariant-loop-number l = AllOver l.sig l.cases l.constructors l.number
