use Rattle.psg_relation.specs.Sifted.{LeavesOut}
use Rattle.psg_relation.proofs.maximal.without_instances.Given as goal

abbrev pub invariant-loop-other : goal.invariant-loop-other
invariant-loop-other l = LeavesOut l.row l.yielded l.rest.items
