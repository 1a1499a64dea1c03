use Rattle.std.proofs.Common.{refl, subst}
use Rattle.psg_run.specs.Formatting.{FormatsFile, most_program_bytes}
use Rattle.psg_run.specs.Reading.{is_read}
use Rattle.psg_run.specs.Worlds.{World, seen}
use Rattle.psg_run.proofs.Onward.{reads_on, same_seen}
use Rattle.psg_run.proofs.formatting.tell_file.Goals as goal

pub returns-in-Err : goal.returns-in-Err
returns-in-Err g c = λ input.
    reads_on c.args.file.now most_program_bytes (FormatsFile c.args.checks c.args.defined.now.language c.args.defined.now.comment c.args.file.now c.args.kind)
    (seen (g.F.Files.holds c.args.files.now) (g.F.Files.faults c.args.files.now) input c.args.steps.now (g.O.Sink.written c.args.out.now) (g.O.Sink.faults c.args.out.now))
    (seen (g.F.Files.holds c.read_within.new.files) (g.F.Files.faults c.read_within.new.files) input c.args.steps.now (g.O.Sink.written c.args.out.now) (g.O.Sink.faults c.args.out.now)) c.in-Err.status
    (c.in-Err.ensures.err input c.args.steps.now (g.O.Sink.written c.args.out.now) (g.O.Sink.faults c.args.out.now))

pub returns : goal.returns
returns g c = λ input.
    let same = same_seen (g.F.Files.holds c.args.files.now) (g.F.Files.holds c.read_within.new.files) (g.F.Files.faults c.args.files.now)
    (g.F.Files.faults c.read_within.new.files) input c.args.steps.now (g.O.Sink.written c.args.out.now) (g.O.Sink.written c.args.out.now)
    (g.O.Sink.faults c.args.out.now) (g.O.Sink.faults c.args.out.now) c.in-Ok.ensures.holds c.in-Ok.ensures.entries refl refl in
    is_read c.in-Ok.bytes.items c.in-Ok.ensures.bytes c.in-Ok.ensures.short
    (subst (λ l. FormatsFile c.args.checks c.args.defined.now.language c.args.defined.now.comment c.args.file.now c.args.kind l
    (seen (g.F.Files.holds c.args.files.now) (g.F.Files.faults c.args.files.now) input c.args.steps.now (g.O.Sink.written c.args.out.now) (g.O.Sink.faults c.args.out.now))
    (seen (g.F.Files.holds c.read_within.new.files) (g.F.Files.faults c.read_within.new.files) input c.tell_without.new.steps (g.O.Sink.written c.tell_without.new.out) (g.O.Sink.faults c.tell_without.new.out)) c.tell_without.result) c.as_slice.ensures.value
    (subst (λ (w : World). FormatsFile c.args.checks c.args.defined.now.language c.args.defined.now.comment c.args.file.now c.args.kind c.as_slice.result.now w
    (seen (g.F.Files.holds c.read_within.new.files) (g.F.Files.faults c.read_within.new.files) input c.tell_without.new.steps (g.O.Sink.written c.tell_without.new.out) (g.O.Sink.faults c.tell_without.new.out)) c.tell_without.result) same
    (c.tell_without.ensures (record { held = g.F.Files.holds c.read_within.new.files; entries = g.F.Files.faults c.read_within.new.files }) input)))
