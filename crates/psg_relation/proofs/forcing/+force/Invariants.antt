use Rattle.std.proofs.Common.{◌≡◌, length}
use Rattle.psg_terms.specs.Sizes.{size, sizes}
use Rattle.psg_relation.specs.Forcing.{Forces}
use Rattle.psg_relation.proofs.forcing.+force.Given as goal

abbrev pub decreases-force : goal.decreases-force
decreases-force l = size l.general.now

abbrev pub decreases-force_all : goal.decreases-force_all
decreases-force_all l = sizes l.row.now

abbrev pub invariant-force_all-loop-i : goal.invariant-force_all-loop-i
invariant-force_all-loop-i l = (length l.row ≡ length l.closed) × Forces l.sig l.fn.forced.items l.forced.items l.row l.closed
