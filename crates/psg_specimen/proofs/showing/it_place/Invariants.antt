use Rattle.std.proofs.Common.{ℕ, ◌≡◌, ◌<◌}
use Rattle.psg_scope.specs.declared.header.NameCol.{NameCol}
use Rattle.psg_scope.specs.Headers.{key_of}
use Rattle.psg_completions.specs.General.{it}
use Rattle.psg_covering.proofs.Firsts.{At}
use Rattle.psg_specimen.proofs.showing.it_place.Given as goal

abbrev pub invariant-loop-number : goal.invariant-loop-number
invariant-loop-number l = (m : ℕ) → m < l.number → At l.names (λ (c : NameCol). key_of c ≡ it l.space → ⊥) m
