use Rattle.std.proofs.Common.{take}
use Rattle.psg_world.specs.Places.{IsAbsent}
use Rattle.psg_world.proofs.store.position.Given as goal

abbrev pub invariant-loop-index : goal.invariant-loop-index
invariant-loop-index l = IsAbsent l.name (take l.index l.files)
