-- The next free cell may be bound to the constructor, and then one more is bound.
use Rattle.std.proofs.Common.{◌+◌, ◌<◌, refl, arith}
use Rattle.psg_tests_store.proofs.ManyCells.{next_free, first_apart, one_bound}
use Rattle.psg_tests_store.proofs.tests.pools.many_cells_are_bound_and_released.Goals as goal

pub bind-requires-clause-is_free : goal.bind-requires-clause-is_free
bind-requires-clause-is_free g c =
    let more : c.binds.k < 100000 = omega arith in
    next_free c.binds.pool c.mark-mark.result c.binds.k 100000 (record { 0 = c.binds.k + 1 }) c.binds.invariant.0 more refl

pub bind-requires-clause-apart : goal.bind-requires-clause-apart
bind-requires-clause-apart g c =
    first_apart c.binds.pool c.mark-mark.result c.binds.k 100000 (record { 0 = c.binds.k + 1 }) c.in_ok-constant.constant c.binds.invariant.0 refl
    c.binds.invariant.1

pub binds-preserved : goal.binds-preserved
binds-preserved g c = (
  one_bound c.binds.pool c.bind.new.self c.mark-mark.result c.binds.k 100000
      (record { bound = record { 0 = c.binds.k + 1 }; target = c.in_ok-constant.constant }) c.binds.invariant.0 refl c.in_ok-bind.ensures.keeps
      c.in_ok-bind.ensures.ok c.in_ok-bind.ensures.sound,
  c.binds.invariant.1,
)
