use Rattle.std.proofs.Common.{◌≡◌, true, length, drop}
use Rattle.std.specs.Str.{chars}
use Rattle.psg_tree.specs.WordTests.{is_word_from}
use Rattle.psg_links.proofs.renaming.is_word.Given as goal

abbrev pub invariant-loop-ch : goal.invariant-loop-ch
invariant-loop-ch l = is_word_from l.first (drop (length l.yielded) (chars l.text)) ≡ is_word_from true (chars l.text)
