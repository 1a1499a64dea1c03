use Rattle.std.proofs.Common.{take}
use Rattle.psg_terms.specs.Kept.{numbers_of}
use Rattle.psg_eval.specs.Partials.{AreKindSorts}
use Rattle.psg_explain.proofs.checking.kind_sorts.Given as goal

abbrev pub invariant-loop-i : goal.invariant-loop-i
invariant-loop-i l = AreKindSorts l.definition (take l.i l.kinds) (numbers_of l.sorts.items)
