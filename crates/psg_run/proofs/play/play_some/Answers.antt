use Rattle.std.proofs.Common.{subst}
use Rattle.psg_run.specs.Framed.{written_by}
use Rattle.psg_run.specs.Playing.{AreOf}
use Rattle.psg_session.specs.Sessions.{state_of}
use Rattle.psg_run.specs.Worlds.{seen}
use Rattle.psg_run.proofs.Onward.{map_err, map_ok}
use Rattle.psg_run.proofs.Replied.{none_played, some_put}
use Rattle.psg_run.proofs.play.play_some.Goals as goal

pub returns-in-Some-clause-ok : goal.returns-in-Some-clause-ok
returns-in-Some-clause-ok g c = map_ok c.play_line.result (λ done input before lines is.
    some_put (written_by c.args.framing) c.args.session.now.language lines (state_of c.args.session.now.editor) before (seen (g.F.Files.holds c.args.files.now) (g.F.Files.faults c.args.files.now) input c.args.steps.now (g.O.Sink.written c.args.out.now) (g.O.Sink.faults c.args.out.now)) c.in-Some.line.now
    (state_of c.play_line.new.session.editor) (seen (g.F.Files.holds c.play_line.new.files) (g.F.Files.faults c.play_line.new.files) input c.play_line.new.steps (g.O.Sink.written c.play_line.new.out) (g.O.Sink.faults c.play_line.new.out)) (subst (λ l. AreOf lines l) c.in-Some.is is) (done input before)) c.play_line.ensures.ok

pub returns-in-Some-clause-err : goal.returns-in-Some-clause-err
returns-in-Some-clause-err g c = map_err c.play_line.result (λ status ends input before lines is.
    record { line = c.in-Some.line.now; is_one = subst (λ l. AreOf lines l) c.in-Some.is is; finishes = ends input before }) c.play_line.ensures.err

pub returns-in-None-clause-ok : goal.returns-in-None-clause-ok
returns-in-None-clause-ok g c = λ input before lines is.
    none_played (written_by c.args.framing) c.args.session.now.language lines (state_of c.args.session.now.editor) before (seen (g.F.Files.holds c.args.files.now) (g.F.Files.faults c.args.files.now) input c.args.steps.now (g.O.Sink.written c.args.out.now) (g.O.Sink.faults c.args.out.now)) (subst (λ l. AreOf lines l) c.in-None.is is)
