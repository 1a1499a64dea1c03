use Rattle.std.proofs.Common.{◌≡◌, ◌++◌, map, drop}
use Rattle.psg_defread.specs.WrittenLines.{phylum_line}
use Rattle.psg_defread.proofs.kinds.push_phyla.Given as goal

abbrev pub invariant-loop-i : goal.invariant-loop-i
invariant-loop-i l =
    l.out.items ++ map (phylum_line l.definition) (drop l.i l.phyla) ≡ l.initial.out.items ++ map (phylum_line l.definition) l.phyla
