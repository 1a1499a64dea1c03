use Rattle.std.proofs.Common.{◌≡◌, length}
use Rattle.psg_terms.specs.Signature.{Signature}
use Rattle.psg_terms.specs.Kept.{symbols_of}
use Rattle.psg_terms.specs.Marks.{AreRight, unmarked}
use Rattle.psg_terms.proofs.ground.inhabited.Given as goal

abbrev pub invariant-loop : goal.invariant-loop
invariant-loop l = (length l.marks.items ≡ l.sorts) × ((sig : Signature) → sig.symbols ≡ symbols_of l.declared → AreRight sig l.marks.items)

abbrev pub decreases-loop : goal.decreases-loop
decreases-loop l = unmarked l.marks.items
