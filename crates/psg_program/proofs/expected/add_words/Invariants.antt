use Rattle.std.proofs.Common.{◌≡◌, ◌++◌, map, take}
use Rattle.psg_stop.specs.Wanted.{word_terminal, wanted_terminals}
use Rattle.psg_program.proofs.expected.add_words.Given as goal

abbrev pub invariant-loop-word : goal.invariant-loop-word
invariant-loop-word l = wanted_terminals l.all.items ≡ wanted_terminals l.fn.all.items ++ map word_terminal (take l.word-index l.words)
