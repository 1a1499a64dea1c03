use Rattle.std.proofs.Common.{Err, ◌∷◌, ap, refl, sym, subst, ◌∙◌}
use Rattle.psg_session.specs.Sessions.{state_of}
use Rattle.psg_session.specs.Views.{reply_of}
use Rattle.psg_run.specs.Framed.{written_by}
use Rattle.psg_run.specs.Playing.{FinishesAt}
use Rattle.psg_run.specs.Worlds.{seen}
use Rattle.psg_run.proofs.Replied.{line_breaks, line_front, line_put, line_unput}
use Rattle.psg_run.proofs.play.play_line.Goals as goal

pub returns-in-Err-clause-err : goal.returns-in-Err-clause-err
returns-in-Err-clause-err g c = λ input before rest.
    line_breaks (written_by c.args.framing) c.args.session.now.language (state_of c.args.session.now.editor) (state_of c.args.session.now.editor) before before c.args.line.now
    (seen (g.F.Files.holds c.args.files.now) (g.F.Files.faults c.args.files.now) input c.args.steps.now (g.O.Sink.written c.args.out.now) (g.O.Sink.faults c.args.out.now))
    (seen (g.F.Files.holds c.apply_line.new.files) (g.F.Files.faults c.apply_line.new.files) input c.apply_line.new.steps (g.O.Sink.written c.args.out.now) (g.O.Sink.faults c.args.out.now))
    refl rest c.in-Err.ensures.broken refl

pub returns-in_default-clause-err : goal.returns-in_default-clause-err
returns-in_default-clause-err g c = λ input before rest.
    line_unput (written_by c.args.framing) c.args.session.now.language (state_of c.args.session.now.editor) (state_of c.apply_line.new.self.editor) before (reply_of c.in-Ok.reply) c.args.line.now
    (seen (g.F.Files.holds c.args.files.now) (g.F.Files.faults c.args.files.now) input c.args.steps.now (g.O.Sink.written c.args.out.now) (g.O.Sink.faults c.args.out.now))
    (seen (g.F.Files.holds c.apply_line.new.files) (g.F.Files.faults c.apply_line.new.files) input c.apply_line.new.steps (g.O.Sink.written c.args.out.now) (g.O.Sink.faults c.args.out.now))
    refl c.in-Ok.ensures.answered rest refl

pub returns-in-Ok-put_all-clause-ok : goal.returns-in-Ok-put_all-clause-ok
returns-in-Ok-put_all-clause-ok g c = λ input before.
    line_put (written_by c.args.framing) c.args.session.now.language (state_of c.args.session.now.editor) (state_of c.apply_line.new.self.editor) before (reply_of c.in-Ok.reply) c.args.line.now
    (seen (g.F.Files.holds c.args.files.now) (g.F.Files.faults c.args.files.now) input c.args.steps.now (g.O.Sink.written c.args.out.now) (g.O.Sink.faults c.args.out.now))
    (seen (g.F.Files.holds c.apply_line.new.files) (g.F.Files.faults c.apply_line.new.files) input c.apply_line.new.steps (g.O.Sink.written c.put_all.new.out) (g.O.Sink.faults c.put_all.new.out))
    refl c.in-Ok.ensures.answered c.as_bytes.result.now (c.as_bytes.ensures.value ∙ c.in-Ok-written.ensures) c.in-Ok-put_all.ensures.all

pub returns-clause-err : goal.returns-clause-err
returns-clause-err g c = λ input before rest.
    subst (λ s. FinishesAt (written_by c.args.framing) c.args.session.now.language (state_of c.args.session.now.editor) before (c.args.line.now ∷ rest)
    (seen (g.F.Files.holds c.args.files.now) (g.F.Files.faults c.args.files.now) input c.args.steps.now (g.O.Sink.written c.args.out.now) (g.O.Sink.faults c.args.out.now))
    (seen (g.F.Files.holds c.apply_line.new.files) (g.F.Files.faults c.apply_line.new.files) input c.apply_line.new.steps (g.O.Sink.written c.put_all.new.out) (g.O.Sink.faults c.put_all.new.out)) s)
    (sym c.write_status.ensures)
    (line_front (written_by c.args.framing) c.args.session.now.language (state_of c.args.session.now.editor) (state_of c.apply_line.new.self.editor) before (reply_of c.in-Ok.reply) c.args.line.now
    (seen (g.F.Files.holds c.args.files.now) (g.F.Files.faults c.args.files.now) input c.args.steps.now (g.O.Sink.written c.args.out.now) (g.O.Sink.faults c.args.out.now))
    (seen (g.F.Files.holds c.apply_line.new.files) (g.F.Files.faults c.apply_line.new.files) input c.apply_line.new.steps (g.O.Sink.written c.put_all.new.out) (g.O.Sink.faults c.put_all.new.out))
    refl c.in-Ok.ensures.answered rest c.as_bytes.result.now (c.as_bytes.ensures.value ∙ c.in-Ok-written.ensures) c.in-Err-put_all.ensures.front c.in-Err-put_all.stop
    (λ failed. c.in-Err-put_all.ensures.failed (ap Err failed)))
