use Rattle.psg_session.proofs.Applying.{applied_in, session_after, stopped_in}
use Rattle.psg_session.proofs.Printouts.{kept_settled}
use Rattle.psg_session.proofs.session.Session.apply.Goals as goal

pub returns-in_err-outcome-clause-stopped : goal.returns-in_err-outcome-clause-stopped
returns-in_err-outcome-clause-stopped g c =
    stopped_in c.self.inside.parts c.args.self.now c.self.view_is c.args.command.now _ _ c.args.steps.now
    c.found.new.steps c.in_err-outcome.ensures.stopped c.from_residual.result

pub returns-clause-applied : goal.returns-clause-applied
returns-clause-applied g c =
    applied_in c.self.inside.parts c.args.self.now c.self.view_is c.self.invariant.session c.in_ok-outcome.ensures.sound c.in_ok-outcome.ensures.accepted c.args.command.now c.in_ok-outcome.ensures.text _ _ c.args.steps.now
    c.found.new.steps c.in_ok-outcome.outcome c.in_ok-outcome.ensures.reached
    c.settle-reply.new.self c.settle-reply.ensures.state c.settle-reply.result c.settle-reply.ensures.reply

pub invariant_of-self : goal.invariant_of-self
invariant_of-self g c = record { session = c.self.invariant.session; text = c.in_err-outcome.ensures.kept }

pub invariant_of-self-2 : goal.invariant_of-self-2
invariant_of-self-2 g c = record {
  session = session_after c.self.inside.parts c.self.invariant.session c.in_ok-outcome.ensures.sound
      c.in_ok-outcome.ensures.accepted c.args.command.now c.in_ok-outcome.ensures.text _ _ c.args.steps.now
      c.found.new.steps c.in_ok-outcome.outcome c.in_ok-outcome.ensures.reached c.settle-reply.new.self
      (c.settle-reply.ensures.editor c.self.inside.parts.language c.self.invariant.session.editor
      c.in_ok-outcome.ensures.reached.is_outcome.fit)
      c.settle-reply.ensures.state c.settle-reply.result c.settle-reply.ensures.reply;
  text = kept_settled c.self.inside.parts.language c.self.inside.parts.editor c.settle-reply.new.self
      c.in_ok-outcome.outcome c.keep_for.new.printed c.settle-reply.ensures.state
      (c.keep_for.ensures c.self.inside.parts.language c.self.inside.parts.editor c.in_ok-outcome.ensures.kept
      c.in_ok-outcome.ensures.next);
}
