use Rattle.psg_relation.specs.Ordered.{KeepsOrder}
use Rattle.psg_relation.specs.Sifted.{HasSameRows}
use Rattle.psg_relation.proofs.sifting.without_repeats.Given as goal

abbrev pub invariant-loop-row : goal.invariant-loop-row
invariant-loop-row l = HasSameRows l.yielded l.once.items × KeepsOrder l.yielded l.once.items
