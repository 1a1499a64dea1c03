use Rattle.std.proofs.Common.{Err, refl, sym, ap, subst}
use Rattle.psg_run.specs.Worlds.{PutsFront, seen}
use Rattle.psg_run.proofs.Turning.{front_stopped}
use Rattle.psg_run.proofs.windows.put_text.Goals as goal

pub returns-in-Err-clause-err : goal.returns-in-Err-clause-err
returns-in-Err-clause-err g c = λ files input ticks.
    subst (λ s. PutsFront c.args.text.now
    (seen files.held files.entries input ticks (g.O.Sink.written c.args.out.now) (g.O.Sink.faults c.args.out.now))
    (seen files.held files.entries input ticks (g.O.Sink.written c.put_all.new.out) (g.O.Sink.faults c.put_all.new.out)) s) (sym c.write_status.ensures)
    (front_stopped c.args.text.now _ _ refl refl refl c.in-Err.ensures.front c.in-Err.stop
    (λ failed. c.in-Err.ensures.failed (ap Err failed)))
