use Rattle.std.proofs.Common.{ℕ, ◌<◌}
use Rattle.psg_grammar.specs.declared.types.Case.{Case}
use Rattle.psg_specimen.specs.Wanted.{IsWantedPlace}
use Rattle.psg_covering.proofs.Firsts.{At}
use Rattle.psg_specimen.proofs.places.first_in_cases.Given as goal

abbrev pub invariant-loop-number : goal.invariant-loop-number
invariant-loop-number l = (m : ℕ) → m < l.number → At l.cases (λ (x : Case). (h : ℕ) → IsWantedPlace l.definition l.wanted x.specimen x.term h) m
