use Rattle.psg_relation.specs.Heads.{places_at}
use Rattle.psg_covering.specs.Index.{AreIndexed}
use Rattle.psg_covering.proofs.index.Index.of.Given as goal

abbrev pub invariant-loop-number : goal.invariant-loop-number
invariant-loop-number l = AreIndexed l.definition l.number (places_at l.index.passing) (places_at l.index.ending)
