use Rattle.psg_session.proofs.Applying.{session_after}
use Rattle.psg_asking.proofs.ProgramLaws.{done_is, files_stay}
use Rattle.psg_asking.proofs.program.tried.Goals as goal

pub found-requires : goal.found-requires
found-requires g c = record {
  editor = c.in_ok-editor.ensures.session.editor;
  formed = c.in_ok-editor.ensures.session.formed;
}

pub returns-clause-applied : goal.returns-clause-applied
returns-clause-applied g c =
    done_is c.args.program.language.now c.in_ok-editor.editor c.settle-reply.new.self _ c.in_ok-editor.ensures.state
    c.in_ok-editor.ensures.session c.in_ok-outcome.ensures.sound c.in_ok-outcome.ensures.accepted c.args.command.now
    c.in_ok-outcome.ensures.text _ _ c.args.steps.now c.found.new.steps c.in_ok-outcome.outcome
    c.in_ok-outcome.ensures.reached c.settle-reply.ensures.state c.settle-reply.result c.settle-reply.ensures.reply

pub returns-clause-session : goal.returns-clause-session
returns-clause-session g c =
    session_after (record { language = c.args.program.language.now; editor = c.in_ok-editor.editor })
    c.in_ok-editor.ensures.session c.in_ok-outcome.ensures.sound c.in_ok-outcome.ensures.accepted c.args.command.now
    c.in_ok-outcome.ensures.text _ _ c.args.steps.now c.found.new.steps c.in_ok-outcome.outcome
    c.in_ok-outcome.ensures.reached c.settle-reply.new.self
    (c.settle-reply.ensures.editor c.args.program.language.now c.in_ok-editor.ensures.session.editor
    c.in_ok-outcome.ensures.reached.is_outcome.fit)
    c.settle-reply.ensures.state c.settle-reply.result c.settle-reply.ensures.reply

pub returns-in_err-outcome-clause-stopped : goal.returns-in_err-outcome-clause-stopped
returns-in_err-outcome-clause-stopped g c =
    files_stay _ _ c.args.command.now _ _ _ _ c.args.steps.now c.found.new.steps c.in_err-outcome.ensures.stopped _
