use Rattle.std.proofs.Common.{◌≡◌, drop, map}
use Rattle.std.specs.Prelude.{None}
use Rattle.psg_prompt.specs.Completing.{found_from}
use Rattle.psg_prompt.proofs.completing.found_in.Given as goal

abbrev pub invariant-loop-word : goal.invariant-loop-word
invariant-loop-word l =
    found_from l.found l.typed (map (λ word. word.items) (drop l.word-index l.words))
    ≡ found_from None l.typed (map (λ word. word.items) l.words)
