use Rattle.std.proofs.Common.{take}
use Rattle.psg_terms.specs.Kept.{numbers_of}
use Rattle.psg_scope.specs.Headers.{keys}
use Rattle.psg_explain.specs.Refutations.{AreSortsOfKeys}
use Rattle.psg_explain.proofs.checking.key_sorts.Given as goal

abbrev pub invariant-loop-i : goal.invariant-loop-i
invariant-loop-i l = AreSortsOfKeys l.definition (keys (take l.i l.keys)) (numbers_of l.sorts.items)
