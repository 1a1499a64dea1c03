use Rattle.std.proofs.Common.{◌≡◌, chars, drop}
use Rattle.std.specs.List.{list_any}
use Rattle.psg_comments.specs.Fitting.{begins_with}
use Rattle.psg_comments.proofs.fitting.begins_word.Given as goal

abbrev pub invariant-loop-word : goal.invariant-loop-word
invariant-loop-word l =
    list_any (λ word. begins_with (chars word) (chars l.token)) (drop l.word-index l.words)
    ≡ list_any (λ word. begins_with (chars word) (chars l.token)) l.words
