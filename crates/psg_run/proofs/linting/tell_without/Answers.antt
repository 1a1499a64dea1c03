use Rattle.std.proofs.Common.{refl, subst}
use Rattle.psg_run.specs.Linting.{TellsLint, lints_file, no_room_without}
use Rattle.psg_run.specs.Worlds.{seen}
use Rattle.psg_run.proofs.linting.tell_without.Goals as goal

pub returns-in_default : goal.returns-in_default
returns-in_default g c = λ files input. no_room_without refl

pub returns : goal.returns
returns g c = λ files input.
    lints_file c.in-Ok.own.comments.items c.in-Ok.own.bytes.items c.in-Ok.ensures
    (subst (λ l. TellsLint c.args.defined.now.language c.args.file.now c.args.kind l
    (seen files.held files.entries input c.args.steps.now (g.O.Sink.written c.args.out.now) (g.O.Sink.faults c.args.out.now))
    (seen files.held files.entries input c.tell.new.steps (g.O.Sink.written c.tell.new.out) (g.O.Sink.faults c.tell.new.out)) c.tell.result) c.as_slice.ensures.value
    (c.tell.ensures files input))
