use Rattle.std.proofs.Common.{◌≡◌, ◌++◌, drop, map, string_bytes}
use Rattle.psg_prompt.specs.Completing.{listed}
use Rattle.psg_prompt.proofs.completing.push_listed.Given as goal

abbrev pub invariant-loop-word : goal.invariant-loop-word
invariant-loop-word l =
    string_bytes l.out ++ listed l.typed (map (λ word. word.items) (drop l.word-index l.words))
    ≡ string_bytes l.initial.out ++ listed l.typed (map (λ word. word.items) l.words)
