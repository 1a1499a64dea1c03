use Rattle.std.proofs.Common.{◌<◌, ℕ}
use Rattle.psg_class.specs.Forms.{Mixes}
use Rattle.psg_class.specs.Grids.{is_set}
use Rattle.psg_class.proofs.forms.mixed_level.Given as goal

abbrev pub invariant-loop-level : goal.invariant-loop-level
invariant-loop-level l = (k : ℕ) → k < l.level → Mixes (is_set l.uses) l.row k → ⊥
