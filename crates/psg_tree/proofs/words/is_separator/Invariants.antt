use Rattle.std.proofs.Common.{◌≡◌, drop}
use Rattle.psg_terms.specs.Names.{is_among}
use Rattle.psg_grammar.specs.WellFormed.{separators}
use Rattle.psg_tree.proofs.words.is_separator.Given as goal

abbrev pub invariant-loop-list : goal.invariant-loop-list
invariant-loop-list l = is_among (separators (drop l.list-index l.lists)) l.text ≡ is_among (separators l.lists) l.text
