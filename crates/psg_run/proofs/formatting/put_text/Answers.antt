use Rattle.std.proofs.Common.{◌≡◌, Err, refl, subst, sym, ap}
use Rattle.std.specs.Io.KnownBytes.{append_known}
use Rattle.psg_world.specs.Sinks.{TakesFront}
use Rattle.psg_run.specs.Worlds.{Puts, seen}
use Rattle.psg_run.proofs.Onward.{all_put, front_put}
use Rattle.psg_run.proofs.formatting.put_text.Goals as goal

pub returns-in-Ok : goal.returns-in-Ok
returns-in-Ok g c = λ files input ticks.
    all_put c.args.text.now c.args.done _ _ refl refl refl
    (subst (λ b. g.O.Sink.written c.put_all.new.out ≡ append_known (g.O.Sink.written c.args.out.now) b) c.as_bytes.ensures.value c.in-Ok.ensures.all)

pub returns-in-Err : goal.returns-in-Err
returns-in-Err g c = λ files input ticks.
    subst (λ s. Puts c.args.text.now c.args.done
    (seen files.held files.entries input ticks (g.O.Sink.written c.args.out.now) (g.O.Sink.faults c.args.out.now))
    (seen files.held files.entries input ticks (g.O.Sink.written c.put_all.new.out) (g.O.Sink.faults c.put_all.new.out)) s) (sym c.write_status.ensures)
    (front_put c.args.text.now c.args.done _ _ refl refl refl
    (subst (λ b. TakesFront (g.O.Sink.written c.args.out.now) b (g.O.Sink.written c.put_all.new.out)) c.as_bytes.ensures.value c.in-Err.ensures.front) c.in-Err.stop
    (λ failed. c.in-Err.ensures.failed (ap Err failed)))
