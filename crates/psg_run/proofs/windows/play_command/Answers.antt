use Rattle.std.proofs.Common.{refl, ◌∙◌, ap}
use Rattle.psg_session.specs.Sessions.{state_of}
use Rattle.psg_session.specs.Views.{reply_of}
use Rattle.psg_run.specs.Windowed.{cursors_after}
use Rattle.psg_run.specs.Worlds.{seen}
use Rattle.psg_run.proofs.Onward.{both_ok, map_err}
use Rattle.psg_run.proofs.WindowLines.{command_breaks, command_front, command_put}
use Rattle.psg_run.proofs.windows.play_command.Goals as goal

pub returns-in-Err-clause-err : goal.returns-in-Err-clause-err
returns-in-Err-clause-err g c = λ input line rest is.
    command_breaks c.args.session.now.language (state_of c.args.session.now.editor) (state_of c.args.session.now.editor) c.args.cursors line
    (seen (g.F.Files.holds c.args.files.now) (g.F.Files.faults c.args.files.now) input c.args.steps.now (g.O.Sink.written c.args.out.now) (g.O.Sink.faults c.args.out.now))
    (seen (g.F.Files.holds c.apply.new.files) (g.F.Files.faults c.apply.new.files) input c.apply.new.steps (g.O.Sink.written c.args.out.now) (g.O.Sink.faults c.args.out.now))
    refl c.args.window c.args.command.now is rest c.in-Err.ensures.stopped refl

pub returns-clause-ok : goal.returns-clause-ok
returns-clause-ok g c = both_ok c.put_reply.result (λ next moves put input line is.
    command_put c.args.session.now.language (state_of c.args.session.now.editor) (state_of c.apply.new.self.editor) c.args.cursors line
    (seen (g.F.Files.holds c.args.files.now) (g.F.Files.faults c.args.files.now) input c.args.steps.now (g.O.Sink.written c.args.out.now) (g.O.Sink.faults c.args.out.now))
    (seen (g.F.Files.holds c.apply.new.files) (g.F.Files.faults c.apply.new.files) input c.apply.new.steps (g.O.Sink.written c.put_reply.new.out) (g.O.Sink.faults c.put_reply.new.out))
    refl c.args.window c.args.command.now is (reply_of c.in-Ok.reply) c.in-Ok.ensures.applied next
    (moves ∙ ap (λ own. cursors_after c.args.window c.args.command.now own (reply_of c.in-Ok.reply) c.args.cursors)
    c.cursor.ensures) put) c.put_reply.ensures.moved c.put_reply.ensures.put

pub returns-clause-err : goal.returns-clause-err
returns-clause-err g c = map_err c.put_reply.result (λ status ends input line rest is.
    command_front c.args.session.now.language (state_of c.args.session.now.editor) (state_of c.apply.new.self.editor) c.args.cursors line
    (seen (g.F.Files.holds c.args.files.now) (g.F.Files.faults c.args.files.now) input c.args.steps.now (g.O.Sink.written c.args.out.now) (g.O.Sink.faults c.args.out.now))
    (seen (g.F.Files.holds c.apply.new.files) (g.F.Files.faults c.apply.new.files) input c.apply.new.steps (g.O.Sink.written c.put_reply.new.out) (g.O.Sink.faults c.put_reply.new.out))
    refl c.args.window c.args.command.now is (reply_of c.in-Ok.reply) c.in-Ok.ensures.applied rest status
    (ends (record { held = g.F.Files.holds c.apply.new.files; entries = g.F.Files.faults c.apply.new.files }) input
    c.apply.new.steps)) c.put_reply.ensures.err
