use Rattle.std.proofs.Common.{◌≡◌, ◌++◌, drop}
use Rattle.psg_scope.specs.Headers.{keys}
use Rattle.psg_explain.specs.Splits.{own_cases_of}
use Rattle.psg_explain.proofs.casing.row_cases.Given as goal

abbrev pub invariant-loop-i : goal.invariant-loop-i
invariant-loop-i l = l.cases.items ++ own_cases_of l.operator.items l.own (keys l.keys) l.i (drop l.i l.operator.rows) ≡ own_cases_of l.operator.items l.own (keys l.keys) 0 l.operator.rows
