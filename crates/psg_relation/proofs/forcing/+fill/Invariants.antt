use Rattle.std.proofs.Common.{◌≡◌, map, take}
use Rattle.psg_terms.specs.Sizes.{size, sizes}
use Rattle.psg_terms.specs.Instances.{substitute}
use Rattle.psg_relation.specs.Forcing.{by_forced}
use Rattle.psg_relation.proofs.forcing.+fill.Given as goal

abbrev pub decreases-fill : goal.decreases-fill
decreases-fill l = size l.term.now

abbrev pub decreases-fill_all : goal.decreases-fill_all
decreases-fill_all l = sizes l.row.now

abbrev pub invariant-fill_all-loop-i : goal.invariant-fill_all-loop-i
invariant-fill_all-loop-i l = l.copies.items ≡ map (substitute (by_forced l.forced)) (take l.i l.row)
