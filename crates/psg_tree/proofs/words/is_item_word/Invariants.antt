use Rattle.std.proofs.Common.{◌≡◌, drop}
use Rattle.psg_terms.specs.Names.{is_among}
use Rattle.psg_grammar.specs.WellFormed.{words_in}
use Rattle.psg_tree.proofs.words.is_item_word.Given as goal

abbrev pub invariant-loop-item : goal.invariant-loop-item
invariant-loop-item l = is_among (words_in (drop l.item-index l.items)) l.text ≡ is_among (words_in l.items) l.text
