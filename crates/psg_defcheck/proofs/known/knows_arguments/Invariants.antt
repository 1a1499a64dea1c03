use Rattle.std.proofs.Common.{take}
use Rattle.std.specs.List.{AllByRecursion}
use Rattle.psg_defcheck.specs.Meanings as meanings
use Rattle.psg_defcheck.proofs.known.knows_arguments.Given as goal

abbrev pub invariant-loop-constructor : goal.invariant-loop-constructor
invariant-loop-constructor l = AllByRecursion (λ c. AllByRecursion (meanings.KnowsSort l.scope) c.args) (take l.constructor-index l.constructors)
