use Rattle.std.proofs.Common.{rules, ◌≡◌, Err, refl, subst, sym, ap}
use Rattle.std.specs.Io.KnownBytes.{append_known}
use Rattle.psg_world.specs.Sinks.{TakesFront}
use Rattle.psg_session.specs.Replies.{feed}
use Rattle.psg_run.specs.Worlds.{Puts, seen}
use Rattle.psg_run.proofs.Onward.{all_put, front_put, none_put}
use Rattle.psg_run.proofs.source.put_line.Goals as goal

pub returns-in_default : goal.returns-in_default
returns-in_default g c = λ files input ticks. none_put (feed c.args.line.now) c.args.done _ _ refl refl refl refl

pub returns-in-Ok-put_all : goal.returns-in-Ok-put_all
returns-in-Ok-put_all g c = λ files input ticks.
    let is : c.as_bytes.result.now ≡ feed c.args.line.now = search rules in
    all_put (feed c.args.line.now) c.args.done _ _ refl refl refl
    (subst (λ b. g.O.Sink.written c.put_all.new.out ≡ append_known (g.O.Sink.written c.args.out.now) b) is c.in-Ok-put_all.ensures.all)

pub returns : goal.returns
returns g c = λ files input ticks.
    let is : c.as_bytes.result.now ≡ feed c.args.line.now = search rules in
    subst (λ s. Puts (feed c.args.line.now) c.args.done
    (seen files.held files.entries input ticks (g.O.Sink.written c.args.out.now) (g.O.Sink.faults c.args.out.now))
    (seen files.held files.entries input ticks (g.O.Sink.written c.put_all.new.out) (g.O.Sink.faults c.put_all.new.out)) s) (sym c.write_status.ensures)
    (front_put (feed c.args.line.now) c.args.done _ _ refl refl refl
    (subst (λ b. TakesFront (g.O.Sink.written c.args.out.now) b (g.O.Sink.written c.put_all.new.out)) is c.in-Err.ensures.front) c.in-Err.stop
    (λ failed. c.in-Err.ensures.failed (ap Err failed)))
