use Rattle.std.proofs.Common.{◌≡◌, drop}
use Rattle.psg_prompt.specs.Prompts.{typed_all}
use Rattle.psg_prompt.proofs.prompt.type_all.Given as goal

abbrev pub invariant-loop-c : goal.invariant-loop-c
invariant-loop-c l = typed_all (drop l.c-index l.text) l.lines ≡ typed_all l.text l.initial.lines
