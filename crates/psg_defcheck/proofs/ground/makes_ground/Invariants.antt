use Rattle.std.proofs.Common.{take}
use Rattle.std.specs.List.{AllByRecursion}
use Rattle.psg_defcheck.specs.Grounds.{AreMarked}
use Rattle.psg_defcheck.proofs.ground.makes_ground.Given as goal

abbrev pub invariant-loop-constructor : goal.invariant-loop-constructor
invariant-loop-constructor l = AllByRecursion (λ c. AreMarked l.marks c.args → ⊥) (take l.constructor-index l.constructors)
