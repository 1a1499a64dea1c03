use Rattle.std.proofs.Common.{◌≡◌, ◌++◌, drop, map}
use Rattle.std.specs.Prelude.{string_bytes}
use Rattle.psg_program.specs.Messages.{after_commas}
use Rattle.psg_program.proofs.messages.push_after_commas.Given as goal

abbrev pub invariant-loop-word : goal.invariant-loop-word
invariant-loop-word l = string_bytes l.line ++ after_commas (map string_bytes (drop l.word-index l.words))
    ≡ string_bytes l.fn.line ++ after_commas (map string_bytes l.words)
