use Rattle.std.proofs.Common.{ap, subst}
use Rattle.psg_run.specs.Linting.{Lints}
use Rattle.psg_run.specs.Reading.{is_accepted, is_read}
use Rattle.psg_run.specs.Worlds.{World, seen}
use Rattle.psg_run.proofs.Onward.{commented_on, same_seen}
use Rattle.psg_run.proofs.linting.lint_file.Goals as goal

pub returns-in-Err : goal.returns-in-Err
returns-in-Err g c = λ input.
    commented_on c.args.definition.now (λ comment def. Lints def comment c.args.kind.now c.args.file.now)
    (seen (g.F.Files.holds c.args.files.now) (g.F.Files.faults c.args.files.now) input c.args.steps.now (g.O.Sink.written c.args.out.now) (g.O.Sink.faults c.args.out.now))
    (seen (g.F.Files.holds c.read_defined.new.files) (g.F.Files.faults c.read_defined.new.files) input c.args.steps.now (g.O.Sink.written c.read_defined.new.out) (g.O.Sink.faults c.read_defined.new.out)) c.in-Err.status (c.in-Err.ensures.err input c.args.steps.now)

pub returns : goal.returns
returns g c = λ input.
    let (bytes, are, short, accepted, named) = c.in-Ok.ensures.ok in
    let same = same_seen (g.F.Files.holds c.args.files.now) (g.F.Files.holds c.read_defined.new.files) (g.F.Files.faults c.args.files.now)
    (g.F.Files.faults c.read_defined.new.files) input c.args.steps.now (g.O.Sink.written c.args.out.now) (g.O.Sink.written c.read_defined.new.out)
    (g.O.Sink.faults c.args.out.now) (g.O.Sink.faults c.read_defined.new.out) c.in-Ok.ensures.holds c.in-Ok.ensures.entries
    (ap g.O.Sink.written c.in-Ok.ensures.quiet) (ap g.O.Sink.faults c.in-Ok.ensures.quiet) in
    is_read bytes are short (is_accepted c.in-Ok.defined.language accepted
    (subst (λ o. Lints c.in-Ok.defined.language o c.args.kind.now c.args.file.now (seen (g.F.Files.holds c.args.files.now) (g.F.Files.faults c.args.files.now) input c.args.steps.now (g.O.Sink.written c.args.out.now) (g.O.Sink.faults c.args.out.now)) (seen (g.F.Files.holds c.tell_kind.new.files) (g.F.Files.faults c.tell_kind.new.files) input c.tell_kind.new.steps (g.O.Sink.written c.tell_kind.new.out) (g.O.Sink.faults c.tell_kind.new.out)) c.tell_kind.result) named
    (subst (λ (w : World). Lints c.in-Ok.defined.language c.in-Ok.defined.comment c.args.kind.now c.args.file.now w (seen (g.F.Files.holds c.tell_kind.new.files) (g.F.Files.faults c.tell_kind.new.files) input c.tell_kind.new.steps (g.O.Sink.written c.tell_kind.new.out) (g.O.Sink.faults c.tell_kind.new.out)) c.tell_kind.result) same
    (c.tell_kind.ensures input))))
