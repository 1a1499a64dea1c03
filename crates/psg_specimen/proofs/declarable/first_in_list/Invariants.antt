use Rattle.std.proofs.Common.{ℕ, ◌<◌}
use Rattle.psg_specimen.specs.Given.{IsDeclarableIn}
use Rattle.psg_covering.proofs.Firsts.{At}
use Rattle.psg_specimen.proofs.declarable.first_in_list.Given as goal

abbrev pub invariant-loop-space : goal.invariant-loop-space
invariant-loop-space l = (m : ℕ) → m < l.space-index → At l.spaces (λ s. (c : ℕ) → IsDeclarableIn l.definition l.number s c) m
