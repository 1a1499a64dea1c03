use Rattle.std.proofs.Common.{List, map, sym, ap, subst, ◌∙◌}
use Rattle.psg_explain.specs.declared.solver.Task.{Task}
use Rattle.psg_explain.specs.Equations.{rewritten}
use Rattle.psg_explain.specs.Solutions.{equation_in, IsApartFrom, IsWorking, variable_in}
use Rattle.psg_explain.proofs.SolvingLaws.{reversed_tasks}
use Rattle.psg_explain.proofs.solver.replace.Goals as goal

pub returns-clause-tasks : goal.returns-clause-tasks
returns-clause-tasks c =
    reversed_tasks (rewritten (variable_in c.args.bound.now.variable) c.args.bound.now.by) c.in_ok-all_new.all_new.made.items c.args.work.left.items
    (c.in_ok-all_new.ensures.tasks ∙ ap (λ (l : List Task). map (rewritten (variable_in c.args.bound.now.variable) c.args.bound.now.by) (map equation_in l)) c.as_slice-tasks.ensures.value)

pub returns-clause-work : goal.returns-clause-work
returns-clause-work c = λ given w b apart.
    c.in_ok-all_new.ensures.work given
    (subst (λ (l : List Task). IsWorking given c.args.work.derived.rules.items c.args.work.derived.all.items l) (sym c.as_slice-tasks.ensures.value) w) b
    (subst (λ (l : List Task). IsApartFrom c.args.bound.now.number l) (sym c.as_slice-tasks.ensures.value) apart)
