use Rattle.std.proofs.Common.{◌≡◌, take}
use Rattle.psg_specimen.specs.Patterns.{part_names}
use Rattle.psg_specimen.proofs.patterns.names_of.Given as goal

abbrev pub invariant-loop-part : goal.invariant-loop-part
invariant-loop-part l = l.names.items ≡ part_names (take l.part-index l.parts)
