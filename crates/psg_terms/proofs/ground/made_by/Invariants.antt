use Rattle.std.proofs.Common.{◌≡◌, length, take, []}
use Rattle.psg_terms.specs.Kept.{symbols_of}
use Rattle.psg_terms.specs.Marks.{AreMade}
use Rattle.psg_terms.proofs.ground.made_by.Given as goal

abbrev pub invariant-loop : goal.invariant-loop
invariant-loop l = (length l.made.items ≡ l.counter) × AreMade 0 l.made.items []

abbrev pub invariant-loop-i : goal.invariant-loop-i
invariant-loop-i l = (length l.made.items ≡ l.sorts) × AreMade 0 l.made.items (symbols_of (take l.i l.declared))
