use Rattle.std.proofs.Common.{◌≡◌, map, take}
use Rattle.psg_terms.specs.Sizes.{size, sizes}
use Rattle.psg_terms.specs.Instances.{substitute}
use Rattle.psg_terms.specs.Renaming.{raised}
use Rattle.psg_terms.proofs.raising.+raise.Given as goal

abbrev pub decreases-raise : goal.decreases-raise
decreases-raise l = size l.term.now

abbrev pub decreases-raise_all : goal.decreases-raise_all
decreases-raise_all l = sizes l.row.now

abbrev pub invariant-raise_all-loop-i : goal.invariant-raise_all-loop-i
invariant-raise_all-loop-i l = l.copies.items ≡ map (substitute (raised l.base)) (take l.i l.row)
