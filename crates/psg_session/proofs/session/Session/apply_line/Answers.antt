use Rattle.psg_session.specs.Sessions.{state_of}
use Rattle.psg_session.proofs.Applying.{line_applied, line_broken}
use Rattle.psg_session.proofs.session.Session.apply_line.Goals as goal

pub returns-in_err-reply-clause-broken : goal.returns-in_err-reply-clause-broken
returns-in_err-reply-clause-broken g c =
    line_broken c.args.self.now.language (state_of c.args.self.now.editor) c.args.line.now _ _
    c.args.steps.now c.apply-reply.new.steps c.in-Ok.command c.in-Ok.ensures.ok c.in_err-reply.ensures.stopped
    c.from_residual.result

pub returns-clause-answered : goal.returns-clause-answered
returns-clause-answered g c =
    line_applied c.args.self.now.language (state_of c.args.self.now.editor)
    (state_of c.apply-reply.new.self.editor) c.args.line.now _ _ c.args.steps.now c.apply-reply.new.steps _
    c.in-Ok.command c.in-Ok.ensures.ok c.in_ok-reply.ensures.applied
