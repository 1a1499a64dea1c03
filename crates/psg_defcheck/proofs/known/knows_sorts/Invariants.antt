use Rattle.std.proofs.Common.{take}
use Rattle.std.specs.List.{AllByRecursion}
use Rattle.psg_defcheck.specs.Meanings as meanings
use Rattle.psg_defcheck.proofs.known.knows_sorts.Given as goal

abbrev pub invariant-loop-sort : goal.invariant-loop-sort
invariant-loop-sort l = AllByRecursion (meanings.KnowsSort l.scope) (take l.sort-index l.sorts)
