use Rattle.std.proofs.Common.{◌≡◌, ℕ, Some, slice_get, sym, subst, ◌∙◌, arith}
use Rattle.psg_explain.specs.Solutions.{tasks_of}
use Rattle.psg_explain.proofs.SolvingLaws.{given_at, given_step}
use Rattle.psg_explain.proofs.solver.begun.Goals as goal

pub loop-place-preserved : goal.loop-place-preserved
loop-place-preserved c =
    let inv = c.loop-place.invariant in
    let some = c.loop-place-test.true in
    let within = inv.bounded in
    let at = given_at c.args.given.now c.loop-place.place c.index-given-place.result c.in_ok-equation.equation some within c.index-given-place.is c.in_ok-equation.ensures in
    record {
      bounded = omega (arith, within);
      tasks = given_step c.args.given.now c.loop-place.place c.in_ok-equation.equation (tasks_of c.loop-place.work) (tasks_of c.add.new.self) some at inv.tasks c.in_ok-add.ensures.tasks;
      stays = c.in_ok-add.ensures.work c.args.given.now inv.stays
          (subst (λ (n : ℕ). slice_get c.args.given.now n ≡ Some c.in_ok-equation.equation) (sym c.in_ok-number.ensures.number) at);
      failure = c.in_ok-add.ensures.failure ∙ inv.failure;
    }
