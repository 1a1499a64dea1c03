use Rattle.std.proofs.Common.{◌≡◌, ◌++◌, drop, map}
use Rattle.psg_scope.specs.Headers.{keys}
use Rattle.psg_explain.specs.Given.{closed_row, plain_cases}
use Rattle.psg_explain.proofs.casing.closed_cases.Given as goal

abbrev pub invariant-loop-i : goal.invariant-loop-i
invariant-loop-i l =
    l.cases.items ++ plain_cases l.i (map (closed_row (keys l.inside) (keys l.outside)) (drop l.i l.rows))
    ≡ plain_cases 0 (map (closed_row (keys l.inside) (keys l.outside)) l.rows)
