use Rattle.std.proofs.Common.{◌≡◌, ◌<◌, ℕ, false, get_or}
use Rattle.psg_class.specs.Grids.{IsStep, Follows}
use Rattle.psg_class.proofs.grid.follow_all.Given as goal

abbrev pub invariant-loop-link : goal.invariant-loop-link
invariant-loop-link l = record {
  step : IsStep l.links l.initial.grid l.grid l.more;
  done : l.more ≡ false → (j : ℕ) → j < l.link-index → Follows l.initial.grid (get_or l.links j (record { to = 0; from = 0 }));
}
