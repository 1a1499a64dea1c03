use Rattle.std.proofs.Common.{◌≡◌, Some, refl, ◌∙◌, subst}
use Rattle.std.specs.Io.KnownBytes.{append_known}
use Rattle.psg_session.specs.Views.{reply_of}
use Rattle.psg_run.specs.Windowed.{text_for}
use Rattle.psg_run.specs.Worlds.{PutsFront, seen}
use Rattle.psg_run.proofs.Turning.{none_stopped}
use Rattle.psg_run.proofs.windows.put_reply.Goals as goal

pub returns-in_default-clause-err : goal.returns-in_default-clause-err
returns-in_default-clause-err g c = λ files input ticks.
    none_stopped (text_for (Some c.args.window) (reply_of c.args.reply)) _ _ refl refl refl refl

pub returns-in_default-window_text-clause-err : goal.returns-in_default-window_text-clause-err
returns-in_default-window_text-clause-err g c = λ files input ticks.
    none_stopped (text_for (Some c.args.window) (reply_of c.args.reply)) _ _ refl refl refl refl

pub returns-in-Ok-put_text-clause-put : goal.returns-in-Ok-put_text-clause-put
returns-in-Ok-put_text-clause-put g c =
    subst (λ b. g.O.Sink.written c.put_text.new.out ≡ append_known (g.O.Sink.written c.args.out.now) b)
    (c.as_slice.ensures.value ∙ c.in-Ok-window_text.ensures) c.in-Ok-put_text.ensures.ok

pub returns-in-Err-clause-err : goal.returns-in-Err-clause-err
returns-in-Err-clause-err g c = λ files input ticks.
    subst (λ b. PutsFront b
    (seen files.held files.entries input ticks (g.O.Sink.written c.args.out.now) (g.O.Sink.faults c.args.out.now))
    (seen files.held files.entries input ticks (g.O.Sink.written c.put_text.new.out) (g.O.Sink.faults c.put_text.new.out)) c.in-Err.status)
    (c.as_slice.ensures.value ∙ c.in-Ok-window_text.ensures) (c.in-Err.ensures.err files input ticks)
