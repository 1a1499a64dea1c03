use Rattle.std.proofs.Common.{◌≡◌, ◌++◌, drop}
use Rattle.psg_scope.specs.Headers.{keys}
use Rattle.psg_explain.specs.Given.{beside, key_equations, key_subjects}
use Rattle.psg_explain.proofs.given.add_common.Given as goal

abbrev pub invariant-loop-i : goal.invariant-loop-i
invariant-loop-i l =
    (l.all.subjects.items ++ key_subjects (beside (keys l.others) l.right) (keys (drop l.i l.mine)) (drop l.i l.left)
    ≡ l.fn.all.subjects.items ++ key_subjects (beside (keys l.others) l.right) (keys l.mine) l.left)
    × (l.all.given.items ++ key_equations (beside (keys l.others) l.right) (keys (drop l.i l.mine)) (drop l.i l.left)
    ≡ l.fn.all.given.items ++ key_equations (beside (keys l.others) l.right) (keys l.mine) l.left)
