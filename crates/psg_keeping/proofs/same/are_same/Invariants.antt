use Rattle.psg_commented.specs.Keeping.{token_of}
use Rattle.psg_commented.proofs.Lists.{AreAlike}
use Rattle.psg_keeping.proofs.same.are_same.Given as goal

abbrev pub invariant-loop-place : goal.invariant-loop-place
invariant-loop-place l = AreAlike token_of l.own l.shown l.place
