use Rattle.std.proofs.Common.{ℕ, ◌<◌, List}
use Rattle.psg_terms.specs.Terms.{Term}
use Rattle.psg_terms.specs.Instances.{IsInstance}
use Rattle.psg_relation.specs.Choices.{picked}
use Rattle.psg_covering.proofs.Firsts.{At}
use Rattle.psg_specimen.proofs.showing.is_shown.Given as goal

abbrev pub invariant-loop-number : goal.invariant-loop-number
invariant-loop-number l = (m : ℕ) → m < l.number → At l.rows (λ (row : List Term). IsInstance l.terms (picked row l.keep) → ⊥) m
