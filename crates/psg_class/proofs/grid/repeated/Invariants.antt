use Rattle.std.proofs.Common.{◌≡◌, ◌<◌, ℕ, take}
use Rattle.psg_class.specs.Grids.{IsGrid, is_set, once, twice}
use Rattle.psg_class.proofs.grid.repeated.Given as goal

abbrev pub invariant-loop-cell : goal.invariant-loop-cell
invariant-loop-cell l = record {
  met_height : l.met.height ≡ l.height;
  met_width : l.met.width ≡ l.width;
  met_grid : IsGrid l.met;
  again_height : l.again.height ≡ l.height;
  again_width : l.again.width ≡ l.width;
  again_grid : IsGrid l.again;
  met : (r c : ℕ) → c < l.width → is_set l.met r c ≡ once r c (take l.cell-index l.cells);
  again : (r c : ℕ) → c < l.width → is_set l.again r c ≡ twice r c (take l.cell-index l.cells);
}
