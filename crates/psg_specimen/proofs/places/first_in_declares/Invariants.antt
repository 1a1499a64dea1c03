use Rattle.std.proofs.Common.{ℕ, ◌<◌}
use Rattle.psg_grammar.specs.declared.types.DeclareRow.{DeclareRow}
use Rattle.psg_specimen.specs.Wanted.{IsWantedPlace}
use Rattle.psg_covering.proofs.Firsts.{At}
use Rattle.psg_specimen.proofs.places.first_in_declares.Given as goal

abbrev pub invariant-loop-number : goal.invariant-loop-number
invariant-loop-number l = (m : ℕ) → m < l.number → At l.rows (λ (x : DeclareRow). (h : ℕ) → IsWantedPlace l.definition l.wanted x.specimen x.term h) m
