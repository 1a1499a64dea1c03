use Rattle.std.proofs.Common.{◌≡◌, ◌∷◌, false, take}
use Rattle.psg_terms.specs.Names.{is_among}
use Rattle.psg_scope.specs.Headers.{keys}
use Rattle.psg_wanted.proofs.values.column_of.Given as goal

abbrev pub invariant-loop-place : goal.invariant-loop-place
invariant-loop-place l = is_among (keys (take l.place l.names)) (l.space ∷ l.name) ≡ false
