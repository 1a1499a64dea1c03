use Rattle.std.proofs.Common.{◌<◌, All, ℕ, take}
use Rattle.psg_relation.proofs.beside.are_below.Given as goal

abbrev pub invariant-loop-i : goal.invariant-loop-i
invariant-loop-i l = All (λ (k : ℕ). k < l.count) (take l.i l.keep)
