use Rattle.std.proofs.Common.{take}
use Rattle.psg_wanted.proofs.ListedLaws.{Lists}
use Rattle.psg_wanted.proofs.menus.listed.Given as goal

abbrev pub invariant-loop-place : goal.invariant-loop-place
invariant-loop-place g l = Lists l.definition l.frames l.used (take l.place l.ops) l.found.items
