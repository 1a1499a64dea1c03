use Rattle.std.proofs.Common.{take}
use Rattle.std.specs.List.{AllByRecursion}
use Rattle.psg_terms.specs.Kept.{numbers_of}
use Rattle.psg_explain.specs.Sources.{IsClaimable}
use Rattle.psg_explain.proofs.checking.are_sorted.Given as goal

abbrev pub invariant-loop-i : goal.invariant-loop-i
invariant-loop-i l = AllByRecursion (IsClaimable l.definition (numbers_of l.sorts)) (take l.i l.rows)
