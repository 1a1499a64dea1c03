use Rattle.std.proofs.Common.{◌≡◌, map, take}
use Rattle.psg_recover.specs.Grammars.{plain_phylum}
use Rattle.psg_recover.proofs.grammar.plain_phyla.Given as goal

abbrev pub invariant-loop-phylum : goal.invariant-loop-phylum
invariant-loop-phylum l = l.made.items ≡ map plain_phylum (take l.phylum-index l.phyla)
