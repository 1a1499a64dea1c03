use Rattle.std.proofs.Common.{take}
use Rattle.psg_menu.proofs.NameLaws.{Names}
use Rattle.psg_menu.proofs.naming.nameable.Given as goal

abbrev pub invariant-loop-place : goal.invariant-loop-place
invariant-loop-place g l = Names l.definition l.frames l.op (take l.place l.candidates) l.found.items
