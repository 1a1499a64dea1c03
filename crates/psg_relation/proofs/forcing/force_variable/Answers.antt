use Rattle.psg_relation.proofs.Filling.{forces_none, forces_push}
use Rattle.psg_relation.proofs.forcing.force_variable.Goals as goal

pub returns-in_ok-push : goal.returns-in_ok-push
returns-in_ok-push c =
    let fit = c.may_force.ensures c.if-may_force.true in
    forces_push c.args.sig.now c.args.forced.now.items c.push.new.self.items c.args.sort c.args.number c.args.term.now c.in_ok-copy.copy c.in_ok-copy.ensures c.in_ok-push.ensures.items fit.0 fit.1

pub returns-else-may_force : goal.returns-else-may_force
returns-else-may_force c = forces_none c.args.sig.now c.args.forced.now.items _ _
