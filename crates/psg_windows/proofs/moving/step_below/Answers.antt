use Rattle.std.proofs.Common.{◌∷◌}
use Rattle.psg_windows.proofs.moving.step_below.Goals as goal

pub returns-in_default : goal.returns-in_default
returns-in_default c = λ k rest e. c.in_default.ensures (k ∷ rest) e
