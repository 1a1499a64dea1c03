use Rattle.std.proofs.Common.{◌≡◌, ◌++◌, drop}
use Rattle.psg_grammar.specs.WellFormed.{words_in}
use Rattle.psg_places.proofs.words.gather_items.Given as goal

abbrev pub invariant-loop-item : goal.invariant-loop-item
invariant-loop-item l = l.found.items ++ words_in (drop l.item-index l.items) ≡ l.initial.found.items ++ words_in l.items
