use Rattle.std.proofs.Common.{◌≡◌}
use Rattle.psg_unify.proofs.NumberSteps.{IsMadeOf}
use Rattle.psg_unify.proofs.numbering.number_made.Given as goal

abbrev pub invariant-loop-k : goal.invariant-loop-k
invariant-loop-k l =
    IsMadeOf l.sig l.pool l.fn.numbers l.numbers l.id l.con l.k l.made
    × (l.numbers.cells ≡ l.fn.numbers.cells)
