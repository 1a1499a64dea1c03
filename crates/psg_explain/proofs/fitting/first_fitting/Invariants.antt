use Rattle.std.proofs.Common.{◌≡◌, ◌<◌, ℕ, List, Some, slice_get}
use Rattle.psg_terms.specs.Terms.{Term}
use Rattle.psg_terms.specs.Instances.{IsInstance}
use Rattle.psg_explain.proofs.fitting.first_fitting.Given as goal

abbrev pub invariant-loop-to : goal.invariant-loop-to
invariant-loop-to l = (k : ℕ) (row : List Term) → k < l.to → slice_get l.rows k ≡ Some row → IsInstance l.columns row → ⊥
