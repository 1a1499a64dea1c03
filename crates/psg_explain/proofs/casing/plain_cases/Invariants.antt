use Rattle.std.proofs.Common.{◌≡◌, ◌++◌, drop}
use Rattle.psg_explain.specs.Given.{plain_cases}
use Rattle.psg_explain.proofs.casing.plain_cases.Given as goal

abbrev pub invariant-loop-i : goal.invariant-loop-i
invariant-loop-i l = l.cases.items ++ plain_cases l.i (drop l.i l.rows) ≡ plain_cases 0 l.rows
