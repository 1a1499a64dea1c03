-- The free cells come behind the constructor, and are then bound from the first on.
use Rattle.std.proofs.Common.{◌≡◌, []}
use Rattle.psg_tests_store.proofs.ManyCells.{IsRow, AreBound}
use Rattle.psg_tests_store.proofs.tests.pools.many_cells_are_bound_and_released.Given as goal

abbrev pub invariant-puts : goal.invariant-puts
invariant-puts g l = IsRow l.pool.cells l.k × (l.pool.bindings ≡ []) × (l.constant.0 ≡ 0)

abbrev pub invariant-binds : goal.invariant-binds
invariant-binds g l = AreBound l.pool l.mark l.k 100000 × (l.constant.0 ≡ 0)
