use Rattle.psg_explain.proofs.CheckLaws.{IsChecked}
use Rattle.psg_explain.proofs.checking.are_claims.Given as goal

abbrev pub invariant-loop-place : goal.invariant-loop-place
invariant-loop-place l = IsChecked l.definition l.stages l.claims l.place
