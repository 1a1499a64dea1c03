use Rattle.std.proofs.Common.{◌≡◌, take}
use Rattle.psg_terms.specs.Declarations.{in_order}
use Rattle.psg_terms.specs.Numbered.{places}
use Rattle.psg_terms.proofs.declare.in_order.Given as goal

abbrev pub invariant-loop-i : goal.invariant-loop-i
invariant-loop-i l = places l.placed.items ≡ in_order 0 (take l.i l.sorts)
