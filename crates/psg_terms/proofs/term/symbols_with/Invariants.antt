use Rattle.std.proofs.Common.{◌≡◌, ◌-◌, ◌^◌, min, take}
use Rattle.psg_terms.specs.Terms.{symbol, applied}
use Rattle.psg_terms.specs.Weight.{symbols_of}
use Rattle.psg_terms.proofs.term.symbols_with.Given as goal

abbrev pub invariant-loop-arg : goal.invariant-loop-arg
invariant-loop-arg l = l.symbols ≡ min (symbols_of (applied (symbol 0) (take l.arg-index l.args))) (2 ^ 64 - 1)
