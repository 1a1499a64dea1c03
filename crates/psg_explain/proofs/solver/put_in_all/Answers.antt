use Rattle.std.proofs.Common.{[]}
use Rattle.psg_explain.specs.Equations.{rewritten}
use Rattle.psg_explain.specs.Solutions.{variable_in}
use Rattle.psg_explain.proofs.SolvingLaws.{extends_trans, put_extends, put_tasks_step, working_next}
use Rattle.psg_explain.proofs.solver.put_in_all.Goals as goal

pub loop-i-preserved : goal.loop-i-preserved
loop-i-preserved c =
    let inv = c.loop-i.invariant in
    let bound = c.args.bound.now in
    record {
      tasks = put_tasks_step (rewritten (variable_in bound.variable) bound.by) c.args.tasks.now c.loop-i.made.items c.push.new.self.items c.loop-i.i c.index-tasks-i.result c.in_ok-task.task
          c.loop-i-test.true c.index-tasks-i.is inv.tasks c.in_ok-task.ensures.equation c.in_ok-push.ensures.items;
      stays = λ given w b apart.
          working_next given c.args.derived c.loop-i.all c.put_in_task.new.derived bound c.args.tasks.now c.loop-i.made.items c.push.new.self.items c.loop-i.i c.index-tasks-i.result c.in_ok-task.task
          c.loop-i-test.true c.index-tasks-i.is inv.extends b apart (inv.stays given w b apart) (c.in_ok-task.ensures.derives given) c.in_ok-push.ensures.items;
      extends = extends_trans c.args.derived.all.items c.loop-i.all.all.items c.put_in_task.new.derived.all.items inv.extends
          (put_extends [] c.loop-i.all c.put_in_task.new.derived bound c.index-tasks-i.result c.in_ok-task.task (c.in_ok-task.ensures.derives []));
    }
