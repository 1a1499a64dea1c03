use Rattle.std.proofs.Common.{◌≡◌, reverse}
use Rattle.psg_terms.specs.Sizes.{sizes}
use Rattle.psg_terms.specs.Canonical.{variables_of, noted_all}
use Rattle.psg_terms.specs.Renaming.{keys, opens}
use Rattle.psg_unify.specs.Putting.{IsLonger, PutsKnown}
use Rattle.psg_unify.proofs.putting.put_variables.Given as goal

abbrev pub invariant-loop-term : goal.invariant-loop-term
invariant-loop-term l =
    (noted_all (keys l.known.keys) (opens l.sig (variables_of (reverse l.stack.items))) ≡ noted_all (keys l.fn.known.keys) (opens l.sig (variables_of l.row)))
    × PutsKnown l.fn.pool.cells l.pool.cells (keys l.fn.known.keys) (keys l.known.keys)
    × IsLonger l.fn.pool l.pool

abbrev pub decreases-loop-term : goal.decreases-loop-term
decreases-loop-term l = sizes l.stack.items
