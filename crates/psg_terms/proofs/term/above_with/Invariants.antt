use Rattle.std.proofs.Common.{◌≡◌, take}
use Rattle.psg_terms.specs.Terms.{symbol, applied}
use Rattle.psg_terms.specs.Weight.{above_of}
use Rattle.psg_terms.proofs.term.above_with.Given as goal

abbrev pub invariant-loop-arg : goal.invariant-loop-arg
invariant-loop-arg l = l.above ≡ above_of (applied (symbol 0) (take l.arg-index l.args))
