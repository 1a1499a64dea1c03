use Rattle.std.proofs.Common.{take, List}
use Rattle.psg_terms.specs.Names.{Name}
use Rattle.psg_terms.specs.Declarations.{AreNamed}
use Rattle.psg_terms.specs.Numbered.{Knows}
use Rattle.psg_terms.specs.Kept.{numbers_of}
use Rattle.psg_terms.proofs.declare.resolve.Given as goal

abbrev pub invariant-loop-name : goal.invariant-loop-name
invariant-loop-name l = (names : List Name) → Knows names l.numbers → AreNamed names (take l.name-index l.args) (numbers_of l.found.items)
