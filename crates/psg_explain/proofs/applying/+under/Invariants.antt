use Rattle.std.proofs.Common.{take}
use Rattle.psg_terms.specs.Sizes.{size, sizes}
use Rattle.psg_explain.specs.Verdicts.{AreMade}
use Rattle.psg_explain.proofs.applying.+under.Given as goal

abbrev pub decreases-is_under : goal.decreases-is_under
decreases-is_under l = size l.general.now

abbrev pub decreases-are_under : goal.decreases-are_under
decreases-are_under l = sizes l.general.now

abbrev pub invariant-are_under-loop-i : goal.invariant-are_under-loop-i
invariant-are_under-loop-i l = AreMade l.values (take l.i l.general) (take l.i l.special)
