use Rattle.std.proofs.Common.{◌≡◌, None, drop, option_copied}
use Rattle.psg_modes.specs.Wrong.{any, greatest_with}
use Rattle.psg_modes.proofs.wrong.greatest.Given as goal

abbrev pub invariant-loop-place : goal.invariant-loop-place
invariant-loop-place l = greatest_with any None l.paths ≡ greatest_with any (option_copied l.best) (drop l.place l.paths)
