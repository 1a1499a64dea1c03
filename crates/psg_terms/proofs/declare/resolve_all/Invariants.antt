use Rattle.std.proofs.Common.{take, List}
use Rattle.psg_terms.specs.Names.{Name}
use Rattle.psg_terms.specs.Declarations.{AreSpelled}
use Rattle.psg_terms.specs.Numbered.{Knows, places}
use Rattle.psg_terms.specs.Kept.{symbols_of}
use Rattle.psg_terms.proofs.declare.resolve_all.Given as goal

abbrev pub invariant-loop-p : goal.invariant-loop-p
invariant-loop-p l = (names : List Name) → Knows names l.numbers → AreSpelled names (places (take l.p-index l.placed)) (symbols_of l.made.items)
