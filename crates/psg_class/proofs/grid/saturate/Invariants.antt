use Rattle.psg_class.specs.Grids.{IsSameSize, IsSound, Keeps, unset}
use Rattle.psg_class.proofs.grid.saturate.Given as goal

abbrev pub invariant-loop : goal.invariant-loop
invariant-loop l = record {
  size : IsSameSize l.fn.grid l.grid;
  keeps : Keeps l.fn.grid l.grid;
  sound : IsSound l.fn.grid l.links l.grid;
}

abbrev pub decreases-loop : goal.decreases-loop
decreases-loop l = unset l.grid.cells.items
