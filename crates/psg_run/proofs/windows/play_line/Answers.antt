use Rattle.std.proofs.Common.{refl}
use Rattle.psg_session.specs.Sessions.{state_of}
use Rattle.psg_run.specs.Windowed.{windowed}
use Rattle.psg_run.specs.Worlds.{seen}
use Rattle.psg_run.proofs.Onward.{map_err, map_if_ok}
use Rattle.psg_run.proofs.WindowLines.{is_resolved, line_breaks, none_front, none_put}
use Rattle.psg_run.proofs.windows.play_line.Goals as goal

pub returns-in-Err-clause-err : goal.returns-in-Err-clause-err
returns-in-Err-clause-err g c = λ input rest.
    line_breaks c.args.session.now.language (windowed (state_of c.args.session.now.editor) c.args.cursors) c.args.line.now
    (seen (g.F.Files.holds c.args.files.now) (g.F.Files.faults c.args.files.now) input c.args.steps.now (g.O.Sink.written c.args.out.now) (g.O.Sink.faults c.args.out.now))
    (seen (g.F.Files.holds c.args.files.now) (g.F.Files.faults c.args.files.now) input c.args.steps.now (g.O.Sink.written c.args.out.now) (g.O.Sink.faults c.args.out.now))
    refl rest refl

pub play_command-requires-clause-window : goal.play_command-requires-clause-window
play_command-requires-clause-window g c = (rw c.in-Some.is at c.in-Ok.ensures).spells.is_window

pub play_command-requires-clause-resolved : goal.play_command-requires-clause-resolved
play_command-requires-clause-resolved g c = is_resolved _ _ _ _ (rw c.in-Some.is at c.in-Ok.ensures)

pub returns-in-Some-clause-ok : goal.returns-in-Some-clause-ok
returns-in-Some-clause-ok g c = map_if_ok c.play_command.result (λ next puts input.
    puts input c.args.line.now (rw c.in-Some.is at c.in-Ok.ensures)) c.play_command.ensures.ok

pub returns-in-Some-clause-err : goal.returns-in-Some-clause-err
returns-in-Some-clause-err g c = map_err c.play_command.result (λ status ends input rest.
    ends input c.args.line.now rest (rw c.in-Some.is at c.in-Ok.ensures)) c.play_command.ensures.err

pub returns-in-Ok-put_refusal-clause-ok : goal.returns-in-Ok-put_refusal-clause-ok
returns-in-Ok-put_refusal-clause-ok g c = λ input.
    none_put c.args.session.now.language (windowed (state_of c.args.session.now.editor) c.args.cursors) c.args.line.now
    (seen (g.F.Files.holds c.args.files.now) (g.F.Files.faults c.args.files.now) input c.args.steps.now (g.O.Sink.written c.args.out.now) (g.O.Sink.faults c.args.out.now))
    (seen (g.F.Files.holds c.args.files.now) (g.F.Files.faults c.args.files.now) input c.args.steps.now (g.O.Sink.written c.put_refusal.new.out) (g.O.Sink.faults c.put_refusal.new.out))
    refl (rw c.in-None.is at c.in-Ok.ensures) c.in-Ok-put_refusal.ensures.ok

pub returns-in-Err-put_refusal-clause-err : goal.returns-in-Err-put_refusal-clause-err
returns-in-Err-put_refusal-clause-err g c = λ input rest.
    none_front c.args.session.now.language (windowed (state_of c.args.session.now.editor) c.args.cursors) c.args.line.now
    (seen (g.F.Files.holds c.args.files.now) (g.F.Files.faults c.args.files.now) input c.args.steps.now (g.O.Sink.written c.args.out.now) (g.O.Sink.faults c.args.out.now))
    (seen (g.F.Files.holds c.args.files.now) (g.F.Files.faults c.args.files.now) input c.args.steps.now (g.O.Sink.written c.put_refusal.new.out) (g.O.Sink.faults c.put_refusal.new.out))
    refl (rw c.in-None.is at c.in-Ok.ensures) rest c.in-Err-put_refusal.status
    (c.in-Err-put_refusal.ensures.err (record { held = g.F.Files.holds c.args.files.now; entries = g.F.Files.faults c.args.files.now })
    input c.args.steps.now)
