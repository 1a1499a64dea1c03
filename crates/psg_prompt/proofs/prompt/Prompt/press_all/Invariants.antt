use Rattle.std.proofs.Common.{◌≡◌, ◌++◌, take, string_bytes}
use Rattle.psg_prompt.specs.Prompts.{after_keys, told_keys}
use Rattle.psg_prompt.proofs.prompt.Prompt.press_all.Given as goal

abbrev pub invariant-loop-number : goal.invariant-loop-number
invariant-loop-number l = record {
  pressed : l.self ≡ after_keys l.initial.self (take l.number l.strokes);
  told : string_bytes l.out ≡ string_bytes l.initial.out ++ told_keys l.initial.self (take l.number l.strokes);
}
