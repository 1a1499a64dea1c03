use Rattle.std.proofs.Common.{◌≡◌, ◌∷◌, [], map, reverse, sym, ap, subst, ◌∙◌, arith}
use Rattle.std.proofs.lemmas.List.{nil_from_length}
use Rattle.psg_terms.specs.Canonical.{is_noted}
use Rattle.psg_explain.specs.declared.solver.Found.{Found}
use Rattle.psg_explain.specs.declared.solver.Work.{Work}
use Rattle.psg_explain.specs.Solutions.{equation_in, IfBound, IsBoundIn, IsFoundIn, IsWithin, reason_of, Solving, tasks_of, variables_in, Yields}
use Rattle.psg_explain.proofs.CountLaws.{first_within}
use Rattle.psg_explain.proofs.SolvingLaws.{bound_up, extends_trans, nothing_left, popped_tasks, working_popped}
use Rattle.psg_explain.proofs.solver.next.Goals as goal

pub loop-task-preserved : goal.loop-task-preserved
loop-task-preserved c =
    let inv = c.loop-task.invariant in
    let mid : Work = record { derived = c.loop-task.work.derived; left = c.pop.new.self; failure = c.loop-task.work.failure } in
    let tasks : tasks_of c.loop-task.work ≡ c.in-Some.task.equation ∷ tasks_of mid = popped_tasks c.loop-task.work.left.items c.pop.new.self.items c.in-Some.task c.in-Some.ensures.items in
    record {
      solving = λ bs r s. inv.solving bs r (subst (λ l. Solving l bs r) (sym tasks)
          ((subst (λ (f : Found). Yields c.in-Some.task.equation mid f c.taken.new.work) c.in-Solved.is c.in_ok-found.ensures.takes) bs r s));
      stays = λ given w.
          let (a, at, apart) = working_popped given c.loop-task.work.derived.rules.items c.loop-task.work.derived.all.items c.loop-task.work.left.items c.pop.new.self.items c.in-Some.task c.in-Some.ensures.items (inv.stays given w) in
          (c.in_ok-found.ensures.work given a at apart).0;
      within = λ x h. inv.within x (ap (λ l. is_noted x (variables_in l)) tasks ∙ c.in_ok-found.ensures.within x h);
      extends = extends_trans c.args.work.now.derived.all.items c.loop-task.work.derived.all.items c.taken.new.work.derived.all.items inv.extends c.in_ok-found.ensures.extends;
      failure = c.in_ok-found.ensures.failure ∙ inv.failure;
    }

pub returns-in-Failed-clause-work : goal.returns-in-Failed-clause-work
returns-in-Failed-clause-work c = λ given w none.
    let inv = c.loop-task.invariant in
    let (a, at, apart) = working_popped given c.loop-task.work.derived.rules.items c.loop-task.work.derived.all.items c.loop-task.work.left.items c.pop.new.self.items c.in-Some.task c.in-Some.ensures.items (inv.stays given w) in
    let (b, f) = c.in_ok-found.ensures.work given a at apart in
    (b, subst (λ (z : Found). IsFoundIn c.taken.new.work z) c.in-Failed.is f)

pub returns-in-Bound-clause-work : goal.returns-in-Bound-clause-work
returns-in-Bound-clause-work c = λ given w none.
    let inv = c.loop-task.invariant in
    let (a, at, apart) = working_popped given c.loop-task.work.derived.rules.items c.loop-task.work.derived.all.items c.loop-task.work.left.items c.pop.new.self.items c.in-Some.task c.in-Some.ensures.items (inv.stays given w) in
    let (b, f) = c.in_ok-found.ensures.work given a at apart in
    (b, subst (λ (z : Found). IsFoundIn c.taken.new.work z) c.in-Bound.is f)

pub returns-in-Bound-clause-bound : goal.returns-in-Bound-clause-bound
returns-in-Bound-clause-bound c =
    let inv = c.loop-task.invariant in
    let mid : Work = record { derived = c.loop-task.work.derived; left = c.pop.new.self; failure = c.loop-task.work.failure } in
    let tasks : tasks_of c.loop-task.work ≡ c.in-Some.task.equation ∷ tasks_of mid = popped_tasks c.loop-task.work.left.items c.pop.new.self.items c.in-Some.task c.in-Some.ensures.items in
    let up : IsWithin (tasks_of c.args.work.now) (c.in-Some.task.equation ∷ []) = λ y h. inv.within y (ap (λ l. is_noted y (variables_in l)) tasks ∙ first_within c.in-Some.task.equation (tasks_of mid) y h) in
    let b : IsBoundIn (c.in-Some.task.equation ∷ []) c.in-Bound.bound = subst (λ (z : Found). IfBound (c.in-Some.task.equation ∷ []) z) c.in-Bound.is c.in_ok-found.ensures.bound in
    bound_up (c.in-Some.task.equation ∷ []) (tasks_of c.args.work.now) c.in-Bound.bound up b

pub returns-clause-proceeds : goal.returns-clause-proceeds
returns-clause-proceeds c = λ none.
    let inv = c.loop-task.invariant in
    inv.solving [] (reason_of c.loop-task.work.failure)
    (nothing_left (tasks_of c.loop-task.work) (reason_of c.loop-task.work.failure) (ap (λ l. map equation_in (reverse l)) (nil_from_length c.loop-task.work.left.items (omega (arith, c.in_default.ensures.cases)))) (ap reason_of (inv.failure ∙ none)))
