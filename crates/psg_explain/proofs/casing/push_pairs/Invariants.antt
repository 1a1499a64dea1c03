use Rattle.std.proofs.Common.{◌≡◌, ◌++◌, drop}
use Rattle.psg_scope.specs.Headers.{keys}
use Rattle.psg_explain.specs.Given.{row_pairs}
use Rattle.psg_explain.proofs.casing.push_pairs.Given as goal

abbrev pub invariant-loop-j : goal.invariant-loop-j
invariant-loop-j l =
    l.cases.items ++ row_pairs (keys l.keys.left.now) (keys l.keys.right.now) (keys l.keys.whole.now) l.number l.j l.left (drop l.j l.rights)
    ≡ l.fn.cases.items ++ row_pairs (keys l.keys.left.now) (keys l.keys.right.now) (keys l.keys.whole.now) l.number 0 l.left l.rights
