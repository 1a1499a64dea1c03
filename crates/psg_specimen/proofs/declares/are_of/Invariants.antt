use Rattle.std.proofs.Common.{◌≡◌, ℕ, ◌<◌}
use Rattle.psg_specimen.specs.declared.its.Spot.{Spot}
use Rattle.psg_covering.proofs.Firsts.{At}
use Rattle.psg_specimen.proofs.declares.are_of.Given as goal

abbrev pub invariant-loop-place : goal.invariant-loop-place
invariant-loop-place l = (m : ℕ) → m < l.place → At l.its (λ (x : Spot). x.space ≡ l.space) m
