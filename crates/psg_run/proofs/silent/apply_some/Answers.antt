use Rattle.std.proofs.Common.{refl, subst}
use Rattle.psg_session.specs.Sessions.{state_of}
use Rattle.psg_session.specs.Views.{reply_of}
use Rattle.psg_run.specs.Playing.{AreOf, last_of}
use Rattle.psg_run.specs.Worlds.{seen}
use Rattle.psg_run.proofs.Onward.{if_err}
use Rattle.psg_run.proofs.Replied.{silent_line, silent_none}
use Rattle.psg_run.proofs.silent.apply_some.Goals as goal

pub returns-in_err-reply-in-Some-clause-err : goal.returns-in_err-reply-in-Some-clause-err
returns-in_err-reply-in-Some-clause-err g c = if_err c.from_residual.result (λ _ input written count lines is.
    record { line = c.in-Some.line.now; is_one = subst (λ l. AreOf lines l) c.in-Some.is is; breaks = c.in_err-reply-in-Some.ensures.broken })

pub returns-in_ok-reply-in-Some-clause-ok : goal.returns-in_ok-reply-in-Some-clause-ok
returns-in_ok-reply-in-Some-clause-ok g c = λ input written count lines is.
    silent_line c.args.session.now.language lines c.in-Some.line.now (state_of c.args.session.now.editor) (state_of c.apply_line.new.self.editor)
    (last_of c.args.last) (reply_of c.in_ok-reply-in-Some.reply) (seen (g.F.Files.holds c.args.files.now) (g.F.Files.faults c.args.files.now) input c.args.steps.now written count) (seen (g.F.Files.holds c.apply_line.new.files) (g.F.Files.faults c.apply_line.new.files) input c.apply_line.new.steps written count) (subst (λ l. AreOf lines l) c.in-Some.is is) refl c.in_ok-reply-in-Some.ensures.answered

pub returns-in-None-clause-ok : goal.returns-in-None-clause-ok
returns-in-None-clause-ok g c = λ input written count lines is.
    silent_none c.args.session.now.language lines (state_of c.args.session.now.editor) (last_of c.args.last) (seen (g.F.Files.holds c.args.files.now) (g.F.Files.faults c.args.files.now) input c.args.steps.now written count) (subst (λ l. AreOf lines l) c.in-None.is is)
