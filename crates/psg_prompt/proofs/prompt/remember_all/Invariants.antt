use Rattle.std.proofs.Common.{◌≡◌, drop}
use Rattle.psg_prompt.specs.Prompts.{remembered}
use Rattle.psg_prompt.proofs.prompt.remember_all.Given as goal

abbrev pub invariant-loop-c : goal.invariant-loop-c
invariant-loop-c l = remembered (drop l.c-index l.text) l.lines ≡ remembered l.text l.initial.lines
