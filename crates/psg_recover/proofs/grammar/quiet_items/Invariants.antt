use Rattle.std.proofs.Common.{◌≡◌, map, take}
use Rattle.psg_recover.specs.Grammars.{quiet_item}
use Rattle.psg_recover.proofs.grammar.quiet_items.Given as goal

abbrev pub invariant-loop-item : goal.invariant-loop-item
invariant-loop-item l = l.made.items ≡ map quiet_item (take l.item-index l.items)
