use Rattle.std.proofs.Common.{◌≡◌, [], ◌∷◌, map, take}
use Rattle.psg_explain.proofs.casing.rows_of_terms.Given as goal

abbrev pub invariant-loop-term : goal.invariant-loop-term
invariant-loop-term l = l.rows.items ≡ map (λ t. t ∷ []) (take l.term-index l.terms)
