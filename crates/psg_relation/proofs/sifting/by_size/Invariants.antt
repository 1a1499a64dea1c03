use Rattle.psg_relation.specs.Sifted.{IsSplit}
use Rattle.psg_relation.proofs.sifting.by_size.Given as goal

abbrev pub invariant-loop-row : goal.invariant-loop-row
invariant-loop-row l = IsSplit l.yielded l.light.items l.heavy.items
