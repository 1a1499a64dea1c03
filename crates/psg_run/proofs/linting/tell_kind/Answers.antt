use Rattle.std.proofs.Common.{ap, refl, subst}
use Rattle.psg_grammar.specs.declared.types.Kind.{Kind}
use Rattle.psg_run.specs.Formatting.{is_kind, most_program_bytes}
use Rattle.psg_run.specs.Linting.{LintsFile}
use Rattle.psg_run.specs.Reading.{Reads}
use Rattle.psg_run.specs.Worlds.{World, seen}
use Rattle.psg_run.proofs.Onward.{same_seen}
use Rattle.psg_run.proofs.ProgramFiles.{kinds_on}
use Rattle.psg_run.proofs.linting.tell_kind.Goals as goal

pub returns-in-Err : goal.returns-in-Err
returns-in-Err g c = λ input.
    kinds_on c.args.defined.now.language c.args.name.now
    (λ (kind : Kind). Reads c.args.file.now most_program_bytes (LintsFile c.args.defined.now.language c.args.defined.now.comment c.args.file.now kind))
    (seen (g.F.Files.holds c.args.files.now) (g.F.Files.faults c.args.files.now) input c.args.steps.now (g.O.Sink.written c.args.out.now) (g.O.Sink.faults c.args.out.now))
    (seen (g.F.Files.holds c.args.files.now) (g.F.Files.faults c.args.files.now) input c.args.steps.now (g.O.Sink.written c.kind_of.new.out) (g.O.Sink.faults c.kind_of.new.out)) c.in-Err.status
    (c.in-Err.ensures.err (record { held = g.F.Files.holds c.args.files.now; entries = g.F.Files.faults c.args.files.now }) input c.args.steps.now)

pub returns : goal.returns
returns g c = λ input.
    let same = same_seen (g.F.Files.holds c.args.files.now) (g.F.Files.holds c.args.files.now) (g.F.Files.faults c.args.files.now)
    (g.F.Files.faults c.args.files.now) input c.args.steps.now (g.O.Sink.written c.args.out.now) (g.O.Sink.written c.kind_of.new.out)
    (g.O.Sink.faults c.args.out.now) (g.O.Sink.faults c.kind_of.new.out) refl refl (ap g.O.Sink.written c.in-Ok.ensures.quiet) (ap g.O.Sink.faults c.in-Ok.ensures.quiet) in
    is_kind c.in-Ok.kind c.in-Ok.ensures.kind c.in-Ok.ensures.quiet_kind
    (subst (λ (w : World). Reads c.args.file.now most_program_bytes (LintsFile c.args.defined.now.language c.args.defined.now.comment c.args.file.now c.in-Ok.kind) w
    (seen (g.F.Files.holds c.tell_file.new.files) (g.F.Files.faults c.tell_file.new.files) input c.tell_file.new.steps (g.O.Sink.written c.tell_file.new.out) (g.O.Sink.faults c.tell_file.new.out)) c.tell_file.result) same
    (c.tell_file.ensures input))
