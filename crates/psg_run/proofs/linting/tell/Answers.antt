use Rattle.std.proofs.Common.{refl, subst}
use Rattle.std.specs.Prelude.{string_bytes}
use Rattle.psg_run.specs.Linting.{no_room_for_lint, tells_lint}
use Rattle.psg_run.specs.Worlds.{Puts, seen}
use Rattle.psg_run.proofs.linting.tell.Goals as goal

pub returns-in-Ok : goal.returns-in-Ok
returns-in-Ok g c = λ files input.
    tells_lint c.told_of.new.steps (string_bytes c.in-Ok.told.text) c.in-Ok.told.done c.in-Ok.ensures
    (subst (λ text. Puts text c.in-Ok.told.done
    (seen files.held files.entries input c.told_of.new.steps (g.O.Sink.written c.args.out.now) (g.O.Sink.faults c.args.out.now))
    (seen files.held files.entries input c.told_of.new.steps (g.O.Sink.written c.put_text.new.out) (g.O.Sink.faults c.put_text.new.out)) c.put_text.result) c.as_str.ensures.value
    (c.put_text.ensures files input c.told_of.new.steps))

pub returns-in-Err : goal.returns-in-Err
returns-in-Err g c = λ files input. no_room_for_lint c.told_of.new.steps refl
