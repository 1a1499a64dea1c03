use Rattle.std.proofs.Common.{◌≡◌, ◌++◌, List, map, take, drop}
use Rattle.psg_explain.specs.Equations.{Equation, rewritten}
use Rattle.psg_explain.specs.Solutions.{equation_in, Extends, IsApartFrom, IsBoundBy, IsWorking, variable_in}
use Rattle.psg_explain.proofs.solver.put_in_all.Given as goal

abbrev pub invariant-loop-i : goal.invariant-loop-i
invariant-loop-i l = record {
  tasks : map equation_in l.made.items ≡ map (rewritten (variable_in l.bound.variable) l.bound.by) (map equation_in (take l.i l.tasks));
  stays : (given : List Equation) → IsWorking given l.fn.derived.rules.items l.fn.derived.all.items l.tasks → IsBoundBy l.fn.derived.all.items l.bound
      → IsApartFrom l.bound.number l.tasks → IsWorking given l.all.rules.items l.all.all.items (l.made.items ++ drop l.i l.tasks);
  extends : Extends l.fn.derived.all.items l.all.all.items;
}
