use Rattle.std.proofs.Common.{◌≡◌, ◌++◌, map, drop}
use Rattle.psg_terms.specs.Marks.{con_numbers}
use Rattle.psg_defread.specs.ConstructorAt.{constructor_at}
use Rattle.psg_defread.proofs.sorts.constructors_written.Given as goal

abbrev pub invariant-loop-i : goal.invariant-loop-i
invariant-loop-i l =
    l.written.items ++ map (constructor_at l.definition) (con_numbers (drop l.i l.ids))
    ≡ map (constructor_at l.definition) (con_numbers l.ids)
