use Rattle.std.proofs.Common.{◌≡◌, length, take}
use Rattle.psg_cache.specs.Alike.{AreOwnAlike}
use Rattle.psg_cache.proofs.renoting.own_alike.Given as goal

abbrev pub invariant-loop-i : goal.invariant-loop-i
invariant-loop-i l = (length l.left ≡ length l.right) × AreOwnAlike (take l.i l.left) (take l.i l.right)
