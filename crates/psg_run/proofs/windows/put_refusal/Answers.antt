use Rattle.std.proofs.Common.{◌≡◌, None, refl, ◌∙◌, subst}
use Rattle.std.specs.Prelude.{OnOk}
use Rattle.std.specs.Io.KnownBytes.{append_known}
use Rattle.psg_session.specs.Replies.{refused}
use Rattle.psg_session.specs.declared.refusal.Refusal.TheVariants.{NoCommand}
use Rattle.psg_run.specs.Windowed.{text_for}
use Rattle.psg_run.specs.Worlds.{PutsFront, seen}
use Rattle.psg_run.proofs.Onward.{map_err}
use Rattle.psg_run.proofs.Turning.{none_stopped}
use Rattle.psg_run.proofs.windows.put_refusal.Goals as goal

pub returns-in_default-clause-err : goal.returns-in_default-clause-err
returns-in_default-clause-err g c = λ files input ticks.
    none_stopped (text_for None (refused NoCommand)) _ _ refl refl refl refl

pub returns-clause-ok : goal.returns-clause-ok
returns-clause-ok g c =
    subst (λ b. OnOk c.put_text.result (g.O.Sink.written c.put_text.new.out ≡ append_known (g.O.Sink.written c.args.out.now) b))
    (c.as_bytes.ensures.value ∙ c.in-Ok.ensures) c.put_text.ensures.ok

pub returns-clause-err : goal.returns-clause-err
returns-clause-err g c = map_err c.put_text.result (λ status ends files input ticks.
    subst (λ b. PutsFront b
    (seen files.held files.entries input ticks (g.O.Sink.written c.args.out.now) (g.O.Sink.faults c.args.out.now))
    (seen files.held files.entries input ticks (g.O.Sink.written c.put_text.new.out) (g.O.Sink.faults c.put_text.new.out)) status)
    (c.as_bytes.ensures.value ∙ c.in-Ok.ensures) (ends files input ticks)) c.put_text.ensures.err
