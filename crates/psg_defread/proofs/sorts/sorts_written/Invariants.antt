use Rattle.std.proofs.Common.{◌≡◌, ◌++◌, map, drop}
use Rattle.psg_terms.specs.Kept.{numbers_of}
use Rattle.psg_defread.specs.WrittenLines.{sort_name}
use Rattle.psg_defread.proofs.sorts.sorts_written.Given as goal

abbrev pub invariant-loop-i : goal.invariant-loop-i
invariant-loop-i l =
    l.written.items ++ map (sort_name l.definition) (numbers_of (drop l.i l.sorts)) ≡ map (sort_name l.definition) (numbers_of l.sorts)
