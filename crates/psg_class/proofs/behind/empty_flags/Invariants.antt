use Rattle.std.proofs.Common.{◌≡◌, take, map}
use Rattle.psg_class.specs.Checks.{has_none}
use Rattle.psg_class.proofs.behind.empty_flags.Given as goal

abbrev pub invariant-loop-spaces : goal.invariant-loop-spaces
invariant-loop-spaces l = l.flags.items ≡ map has_none (take l.spaces-index l.found)
