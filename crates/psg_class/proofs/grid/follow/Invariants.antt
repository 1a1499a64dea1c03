use Rattle.std.proofs.Common.{◌≡◌, ◌<◌, ℕ, List, true, false, Contains}
use Rattle.psg_class.specs.Grids.{IsSameSize, IsStep, is_set}
use Rattle.psg_class.specs.declared.grid.Link.{Link}
use Rattle.psg_class.proofs.grid.follow.Given as goal

abbrev pub invariant-loop-column : goal.invariant-loop-column
invariant-loop-column l = record {
  size : IsSameSize l.initial.grid l.grid;
  step : (links : List Link) → Contains links l.link → IsStep links l.initial.grid l.grid l.more;
  done : l.more ≡ false → (c : ℕ) → c < l.column → is_set l.initial.grid l.link.from c ≡ true → is_set l.initial.grid l.link.to c ≡ true;
}
