use Rattle.std.proofs.Common.{◌≡◌, ℕ, List, [], take}
use Rattle.psg_terms.specs.Terms.{Term}
use Rattle.psg_relation.specs.Narrowing.{IsPlanned}
use Rattle.psg_relation.proofs.narrowing.keep_columns.Given as goal

abbrev pub invariant-loop-i : goal.invariant-loop-i
invariant-loop-i l = (l.narrow.front ≡ l.fn.narrow.front)
    × ((lefts rights : List Term) (width count : ℕ) → IsPlanned l.left l.right lefts rights width count [] l.fn.narrow → IsPlanned l.left l.right lefts rights width count (take l.i l.keep) l.narrow)
