use Rattle.std.proofs.Common.{◌≡◌, map, take}
use Rattle.psg_recover.specs.Grammars.{plain_space}
use Rattle.psg_recover.proofs.grammar.plain_spaces.Given as goal

abbrev pub invariant-loop-space : goal.invariant-loop-space
invariant-loop-space l = l.made.items ≡ map plain_space (take l.space-index l.spaces)
