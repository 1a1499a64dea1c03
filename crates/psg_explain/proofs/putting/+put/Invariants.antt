use Rattle.std.proofs.Common.{◌≡◌, map, take}
use Rattle.psg_terms.specs.Sizes.{size, sizes}
use Rattle.psg_terms.specs.Instances.{substitute}
use Rattle.psg_explain.specs.Equations.{put_for}
use Rattle.psg_explain.proofs.putting.+put.Given as goal

abbrev pub decreases-put : goal.decreases-put
decreases-put l = size l.term.now

abbrev pub decreases-put_all : goal.decreases-put_all
decreases-put_all l = sizes l.row.now

abbrev pub invariant-put_all-loop-i : goal.invariant-put_all-loop-i
invariant-put_all-loop-i l = l.copies.items ≡ map (substitute (put_for (l.variable.sort.0, l.variable.number) l.by)) (take l.i l.row)
