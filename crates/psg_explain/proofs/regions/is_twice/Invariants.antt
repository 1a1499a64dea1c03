use Rattle.std.proofs.Common.{◌≡◌, ◌∷◌, drop}
use Rattle.psg_scope.specs.Headers.{keys}
use Rattle.psg_explain.specs.Refutations.{is_twice_among}
use Rattle.psg_explain.proofs.regions.is_twice.Given as goal

abbrev pub invariant-loop-i : goal.invariant-loop-i
invariant-loop-i l = is_twice_among (keys (drop l.i l.keys)) (l.space ∷ l.name) ≡ is_twice_among (keys l.keys) (l.space ∷ l.name)
