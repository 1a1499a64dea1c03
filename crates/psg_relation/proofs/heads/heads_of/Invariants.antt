use Rattle.psg_relation.specs.Heads.{places_at, IsIndexed}
use Rattle.psg_relation.proofs.heads.heads_of.Given as goal

abbrev pub invariant-loop-i : goal.invariant-loop-i
invariant-loop-i l = IsIndexed l.rows l.column l.i l.heads.free.items (places_at l.heads.places)
