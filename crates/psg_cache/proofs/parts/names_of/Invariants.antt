use Rattle.std.proofs.Common.{◌≡◌, ◌++◌, drop}
use Rattle.psg_cache.specs.Walks.{names_in}
use Rattle.psg_cache.proofs.parts.names_of.Given as goal

abbrev pub invariant-loop-part : goal.invariant-loop-part
invariant-loop-part l = l.found.items ++ names_in (drop l.part-index l.parts) ≡ names_in l.parts
