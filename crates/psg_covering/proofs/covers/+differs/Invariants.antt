use Rattle.psg_terms.specs.Sizes.{size, sizes}
use Rattle.psg_covering.proofs.covers.+differs.Given as goal

abbrev pub decreases-differs : goal.decreases-differs
decreases-differs l = size l.general.now

abbrev pub decreases-any_differs : goal.decreases-any_differs
decreases-any_differs l = sizes l.general.now

abbrev pub invariant-any_differs-loop-i : goal.invariant-any_differs-loop-i
invariant-any_differs-loop-i l = Unit {0}
