use Rattle.std.proofs.Common.{◌≡◌, take}
use Rattle.psg_defnumber.proofs.signatures.shared.Given as goal

abbrev pub invariant-loop-text : goal.invariant-loop-text
invariant-loop-text l = l.made.items ≡ take l.text-index l.texts
