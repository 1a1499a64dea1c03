use Rattle.std.proofs.Common.{◌≡◌, ◌++◌, take}
use Rattle.psg_class.specs.Failing.{bracket_cells}
use Rattle.psg_class.proofs.failing.add_brackets.Given as goal

abbrev pub invariant-loop-row : goal.invariant-loop-row
invariant-loop-row l = l.cells.items ≡ l.initial.cells.items ++ bracket_cells l.opening 0 (take l.row l.phyla)
