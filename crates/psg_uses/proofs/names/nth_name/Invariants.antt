use Rattle.std.proofs.Common.{take}
use Rattle.psg_uses.proofs.NamesLaws.{NoneTo}
use Rattle.psg_uses.proofs.names.nth_name.Given as goal

abbrev pub invariant-loop-place : goal.invariant-loop-place
invariant-loop-place l = NoneTo l.definition l.path l.number l.op (take l.place l.parts) l.left
