use Rattle.std.proofs.Common.{List, length, subst}
use Rattle.psg_terms.specs.Renaming.{keys}
use Rattle.psg_unify.specs.declared.making.Task.{Task}
use Rattle.psg_unify.specs.Making.{IsPutting, MayPut}
use Rattle.psg_unify.proofs.VariablesPut.{longer_both}
use Rattle.psg_unify.proofs.PuttingEnds.{stacked_one}
use Rattle.psg_unify.proofs.making.put_terms.Goals as goal

pub do_task-requires-clause-may : goal.do_task-requires-clause-may
do_task-requires-clause-may c =
    subst (MayPut c.args.sig.now (keys c.args.known.now.keys) (length c.loop-task.cells.items)) (stacked_one c.pop.new.self.items c.loop-task.tasks.items c.in-Some.task c.in-Some.ensures.items) c.loop-task.invariant.2

pub loop-task-preserved : goal.loop-task-preserved
loop-task-preserved c =
    let h = c.loop-task.invariant.0 in
    let top = stacked_one c.pop.new.self.items c.loop-task.tasks.items c.in-Some.task c.in-Some.ensures.items in (
      (
        h.0,
        h.1,
        h.2,
        c.in_ok-do_task.ensures.put h.0 c.args.row.now h.1 h.2
            (subst (λ (l : List Task). IsPutting c.args.sig.now h.0 (keys c.args.known.now.keys) c.args.row.now c.loop-task.pool l c.loop-task.cells.items) top h.3),
      ),
      longer_both c.args.pool.now c.loop-task.pool c.do_task.new.pool c.loop-task.invariant.1 c.do_task.ensures.longer,
      c.in_ok-do_task.ensures.may,
    )
