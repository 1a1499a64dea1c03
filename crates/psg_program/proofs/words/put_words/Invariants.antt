use Rattle.std.proofs.Common.{◌≡◌, drop}
use Rattle.psg_program.specs.Expected.{with_words}
use Rattle.psg_program.proofs.words.put_words.Given as goal

abbrev pub invariant-loop-word : goal.invariant-loop-word
invariant-loop-word l = with_words l.placed.items (drop l.word-index l.words) ≡ with_words l.fn.placed.items l.words
