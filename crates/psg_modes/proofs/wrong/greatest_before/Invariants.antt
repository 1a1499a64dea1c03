use Rattle.std.proofs.Common.{◌≡◌, None, drop, option_copied}
use Rattle.psg_face.specs.Opens.{is_before}
use Rattle.psg_modes.specs.Wrong.{greatest_with}
use Rattle.psg_modes.proofs.wrong.greatest_before.Given as goal

abbrev pub invariant-loop-place : goal.invariant-loop-place
invariant-loop-place l = greatest_with (λ other. is_before other l.path) None l.paths ≡ greatest_with (λ other. is_before other l.path) (option_copied l.best) (drop l.place l.paths)
