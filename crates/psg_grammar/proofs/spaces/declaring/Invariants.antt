use Rattle.std.proofs.Common.{◌-◌, ◌*◌, length}
use Rattle.psg_grammar.specs.DeclaringTables.{IsTable, spaces_count}
use Rattle.psg_grammar.proofs.spaces.declaring.Given as goal

abbrev pub invariant-passes : goal.invariant-passes
invariant-passes l = IsTable l.definition l.found.items

-- how many spaces may still be found
abbrev pub decreases-passes : goal.decreases-passes
decreases-passes l = length l.definition.phyla * length l.definition.spaces - spaces_count l.found.items
