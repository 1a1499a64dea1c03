use Rattle.std.proofs.Common.{◌≡◌, None, drop, option_copied}
use Rattle.psg_face.specs.Opens.{is_before}
use Rattle.psg_modes.specs.Wrong.{least_with}
use Rattle.psg_modes.proofs.wrong.least_after.Given as goal

abbrev pub invariant-loop-place : goal.invariant-loop-place
invariant-loop-place l = least_with (λ other. is_before l.path other) None l.paths ≡ least_with (λ other. is_before l.path other) (option_copied l.best) (drop l.place l.paths)
