use Rattle.std.proofs.Common.{◌≡◌, ◌++◌, drop}
use Rattle.psg_scope.specs.Headers.{keys}
use Rattle.psg_explain.specs.Given.{all_pairs}
use Rattle.psg_explain.proofs.casing.pair_cases.Given as goal

abbrev pub invariant-loop-i : goal.invariant-loop-i
invariant-loop-i l =
    l.cases.items ++ all_pairs (keys l.keys.left.now) (keys l.keys.right.now) (keys l.keys.whole.now) l.i (drop l.i l.lefts) l.rights
    ≡ all_pairs (keys l.keys.left.now) (keys l.keys.right.now) (keys l.keys.whole.now) 0 l.lefts l.rights
