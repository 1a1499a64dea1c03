use Rattle.std.proofs.Common.{◌≡◌, take}
use Rattle.psg_grammar.specs.Lookups.{part_items}
use Rattle.psg_defnumber.proofs.FitLaws.{items_now}
use Rattle.psg_defnumber.proofs.specimens.items_of.Given as goal

abbrev pub invariant-loop-item : goal.invariant-loop-item
invariant-loop-item l = items_now l.parts.items ≡ part_items (take l.item-index l.items)
