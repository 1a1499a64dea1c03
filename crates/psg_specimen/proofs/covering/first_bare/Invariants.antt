use Rattle.std.proofs.Common.{ℕ, ◌<◌}
use Rattle.psg_grammar.specs.declared.types.Kind.TheVariants as kinds
use Rattle.psg_completions.specs.Places.{IsOfOneRow}
use Rattle.psg_specimen.specs.Wanted.{as_place}
use Rattle.psg_covering.proofs.Firsts.{At}
use Rattle.psg_specimen.proofs.covering.first_bare.Given as goal

abbrev pub invariant-loop-number : goal.invariant-loop-number
invariant-loop-number l = (m : ℕ) → m < l.number → At l.rows (λ row. IsOfOneRow l.definition (as_place (kinds.List l.list) row)) m
