use Rattle.std.proofs.Common.{ℕ, ◌<◌}
use Rattle.psg_terms.specs.Sizes.{size, sizes}
use Rattle.psg_completions.specs.Elements.{IsAbsent}
use Rattle.psg_covering.proofs.Firsts.{At}
use Rattle.psg_specimen.proofs.clear.+absent.Given as goal

abbrev pub decreases-is_absent : goal.decreases-is_absent
decreases-is_absent l = size l.term.now

abbrev pub decreases-is_absent_in : goal.decreases-is_absent_in
decreases-is_absent_in l = sizes l.terms.now

abbrev pub invariant-is_absent_in-loop-place : goal.invariant-is_absent_in-loop-place
invariant-is_absent_in-loop-place l = (m : ℕ) → m < l.place → At l.terms (IsAbsent l.sort.0 l.number) m
