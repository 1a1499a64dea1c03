use Rattle.std.proofs.Common.{ℕ, ◌≡◌, ◌<◌, Some, slice_get}
use Rattle.psg_grammar.specs.declared.types.Case.{Case}
use Rattle.psg_grammar.specs.declared.types.HoleRow.{HoleRow}
use Rattle.psg_specimen.specs.Wanted.{IsWantedPlace}
use Rattle.psg_covering.proofs.Firsts.{At}
use Rattle.psg_specimen.proofs.places.first_in_rows.Given as goal

abbrev pub invariant-loop-number : goal.invariant-loop-number
invariant-loop-number l = (m : ℕ) → m < l.number → At l.rows (λ (row : HoleRow). (d k : ℕ) → (one : Case) → slice_get row.cases d ≡ Some one → IsWantedPlace l.definition l.wanted one.specimen one.term k) m
