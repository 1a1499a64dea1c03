use Rattle.std.proofs.Common.{◌≡◌, ◌<◌, ◌+◌, ◌*◌, ℕ, true}
use Rattle.psg_class.specs.Grids.{is_set}
use Rattle.psg_class.proofs.forms.is_mixed.Given as goal

abbrev pub invariant-loop-other : goal.invariant-loop-other
invariant-loop-other l = (a b : ℕ) → a < l.other → b < a → is_set l.uses l.row (5 * l.level + a) ≡ true → is_set l.uses l.row (5 * l.level + b) ≡ true → ⊥
