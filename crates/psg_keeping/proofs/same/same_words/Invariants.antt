use Rattle.psg_commented.specs.Keeping.{words_of}
use Rattle.psg_commented.proofs.Lists.{AreAlike}
use Rattle.psg_keeping.proofs.same.same_words.Given as goal

abbrev pub invariant-loop-place : goal.invariant-loop-place
invariant-loop-place l = AreAlike words_of l.found l.notes l.place
