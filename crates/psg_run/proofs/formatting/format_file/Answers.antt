use Rattle.std.proofs.Common.{Bool, true, false, ap, subst}
use Rattle.psg_terms.specs.Names.{Name}
use Rattle.psg_run.specs.declared.status.Status.{Status}
use Rattle.psg_run.specs.Formatting.{Formats}
use Rattle.psg_run.specs.Promise.{IsRunOf}
use Rattle.psg_run.specs.Reading.{OnCommented, is_accepted, is_read}
use Rattle.psg_run.specs.Wanted.{formatting}
use Rattle.psg_run.specs.Worlds.{World, seen}
use Rattle.psg_run.proofs.Onward.{commented_on, same_seen}
use Rattle.psg_run.proofs.formatting.format_file.Goals as goal

-- what is asked for, with the word or without
asks : (checks : Bool) (definition kind program : Name) (old new : World) (status : Status)
    → OnCommented definition (λ comment def. Formats checks def comment kind program) old new status
    → IsRunOf (formatting checks definition kind program) old new status
asks false definition kind program old new status h = h
asks true definition kind program old new status h = h

pub returns-in-Err : goal.returns-in-Err
returns-in-Err g c = λ input.
    asks c.args.checks c.args.definition.now c.args.kind.now c.args.file.now _ _ _
    (commented_on c.args.definition.now (λ comment def. Formats c.args.checks def comment c.args.kind.now c.args.file.now)
    (seen (g.F.Files.holds c.args.files.now) (g.F.Files.faults c.args.files.now) input c.args.steps.now (g.O.Sink.written c.args.out.now) (g.O.Sink.faults c.args.out.now))
    (seen (g.F.Files.holds c.read_defined.new.files) (g.F.Files.faults c.read_defined.new.files) input c.args.steps.now (g.O.Sink.written c.read_defined.new.out) (g.O.Sink.faults c.read_defined.new.out)) c.in-Err.status (c.in-Err.ensures.err input c.args.steps.now))

pub returns : goal.returns
returns g c = λ input.
    let (bytes, are, short, accepted, named) = c.in-Ok.ensures.ok in
    let same = same_seen (g.F.Files.holds c.args.files.now) (g.F.Files.holds c.read_defined.new.files) (g.F.Files.faults c.args.files.now)
    (g.F.Files.faults c.read_defined.new.files) input c.args.steps.now (g.O.Sink.written c.args.out.now) (g.O.Sink.written c.read_defined.new.out)
    (g.O.Sink.faults c.args.out.now) (g.O.Sink.faults c.read_defined.new.out) c.in-Ok.ensures.holds c.in-Ok.ensures.entries
    (ap g.O.Sink.written c.in-Ok.ensures.quiet) (ap g.O.Sink.faults c.in-Ok.ensures.quiet) in
    asks c.args.checks c.args.definition.now c.args.kind.now c.args.file.now _ _ _
    (is_read bytes are short (is_accepted c.in-Ok.defined.language accepted
    (subst (λ o. Formats c.args.checks c.in-Ok.defined.language o c.args.kind.now c.args.file.now (seen (g.F.Files.holds c.args.files.now) (g.F.Files.faults c.args.files.now) input c.args.steps.now (g.O.Sink.written c.args.out.now) (g.O.Sink.faults c.args.out.now)) (seen (g.F.Files.holds c.tell_kind.new.files) (g.F.Files.faults c.tell_kind.new.files) input c.tell_kind.new.steps (g.O.Sink.written c.tell_kind.new.out) (g.O.Sink.faults c.tell_kind.new.out)) c.tell_kind.result) named
    (subst (λ (w : World). Formats c.args.checks c.in-Ok.defined.language c.in-Ok.defined.comment c.args.kind.now c.args.file.now w (seen (g.F.Files.holds c.tell_kind.new.files) (g.F.Files.faults c.tell_kind.new.files) input c.tell_kind.new.steps (g.O.Sink.written c.tell_kind.new.out) (g.O.Sink.faults c.tell_kind.new.out)) c.tell_kind.result) same
    (c.tell_kind.ensures input)))))
