use Rattle.std.proofs.Common.{◌≡◌, ◌++◌, map, take}
use Rattle.psg_stop.specs.Wanted.{hole_terminal, wanted_terminals}
use Rattle.psg_program.proofs.expected.add_holes.Given as goal

abbrev pub invariant-loop-phylum : goal.invariant-loop-phylum
invariant-loop-phylum l = wanted_terminals l.all.items ≡ wanted_terminals l.fn.all.items ++ map hole_terminal (take l.phylum-index l.phyla)
