use Rattle.std.proofs.Common.{◌≡◌, take, false}
use Rattle.psg_terms.specs.Names.{has_twice}
use Rattle.psg_terms.specs.Declarations.{sort_names}
use Rattle.psg_terms.specs.Numbered.{Knows}
use Rattle.psg_terms.proofs.declare.repeated_sort.Given as goal

abbrev pub invariant-loop-i : goal.invariant-loop-i
invariant-loop-i l = (has_twice (take l.i (sort_names l.sorts)) ≡ false) × Knows (take l.i (sort_names l.sorts)) l.numbers
