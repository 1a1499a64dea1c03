use Rattle.std.proofs.Common.{◌≡◌, ◌<◌, ℕ, take}
use Rattle.psg_class.specs.Grids.{IsGrid, is_set, once}
use Rattle.psg_class.proofs.grid.marked.Given as goal

abbrev pub invariant-loop-cell : goal.invariant-loop-cell
invariant-loop-cell l = record {
  height : l.grid.height ≡ l.height;
  width : l.grid.width ≡ l.width;
  grid : IsGrid l.grid;
  exact : (r c : ℕ) → c < l.width → is_set l.grid r c ≡ once r c (take l.cell-index l.cells);
}
