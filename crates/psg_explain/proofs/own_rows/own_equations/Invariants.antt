use Rattle.std.proofs.Common.{◌≡◌, ◌++◌, [], drop, take}
use Rattle.psg_scope.specs.Headers.{keys}
use Rattle.psg_explain.specs.Given.{own_equations, own_subjects}
use Rattle.psg_explain.proofs.own_rows.own_equations.Given as goal

abbrev pub invariant-loop-i : goal.invariant-loop-i
invariant-loop-i l =
    (l.all.subjects.items ++ own_subjects (keys (take l.i l.positions)) (take l.i l.own) (keys (drop l.i l.positions)) (drop l.i l.own)
    ≡ own_subjects [] [] (keys l.positions) l.own)
    × (l.all.given.items ++ own_equations (keys (take l.i l.positions)) (take l.i l.own) (keys (drop l.i l.positions)) (drop l.i l.own)
    ≡ own_equations [] [] (keys l.positions) l.own)
