use Rattle.std.proofs.Common.{◌<◌, ℕ}
use Rattle.psg_terms.specs.Declarations.{IsWideAmong}
use Rattle.psg_terms.specs.Signature.{constructors_from}
use Rattle.psg_terms.specs.Kept.{symbols_of}
use Rattle.psg_terms.proofs.ground.first_wide.Given as goal

abbrev pub invariant-loop-i : goal.invariant-loop-i
invariant-loop-i l = (s : ℕ) → s < l.i → IsWideAmong (constructors_from 0 s (symbols_of l.declared)) (symbols_of l.declared) → ⊥
