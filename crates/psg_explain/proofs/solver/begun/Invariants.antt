use Rattle.std.proofs.Common.{◌≡◌, ◌≤◌, drop, length, None}
use Rattle.psg_explain.specs.Solutions.{IsWork, tasks_of}
use Rattle.psg_explain.proofs.solver.begun.Given as goal

abbrev pub invariant-loop-place : goal.invariant-loop-place
invariant-loop-place l = record {
  bounded : l.place ≤ length l.given;
  tasks : tasks_of l.work ≡ drop l.place l.given;
  stays : IsWork l.given l.work;
  failure : l.work.failure ≡ None;
}

abbrev pub decreases-loop-place : goal.decreases-loop-place
decreases-loop-place l = l.place
