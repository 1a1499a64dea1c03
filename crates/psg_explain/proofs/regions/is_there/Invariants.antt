use Rattle.std.proofs.Common.{◌≡◌, ◌∷◌, drop}
use Rattle.psg_terms.specs.Names.{is_among}
use Rattle.psg_scope.specs.Headers.{keys}
use Rattle.psg_explain.proofs.regions.is_there.Given as goal

abbrev pub invariant-loop-i : goal.invariant-loop-i
invariant-loop-i l = is_among (keys (drop l.i l.keys)) (l.space ∷ l.name) ≡ is_among (keys (drop l.from l.keys)) (l.space ∷ l.name)
