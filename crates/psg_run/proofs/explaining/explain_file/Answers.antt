use Rattle.std.proofs.Common.{refl, subst}
use Rattle.psg_run.specs.Explaining.{Explains}
use Rattle.psg_run.specs.Reading.{is_read, most_script_bytes}
use Rattle.psg_run.specs.Scripts.{script_lines}
use Rattle.psg_run.specs.Worlds.{World, seen}
use Rattle.psg_run.proofs.Onward.{reads_on, same_seen}
use Rattle.psg_run.proofs.explaining.explain_file.Goals as goal

pub returns-in-Err : goal.returns-in-Err
returns-in-Err g c = λ input.
    reads_on c.args.script.now most_script_bytes (λ bytes. Explains c.args.language (script_lines bytes))
    (seen (g.F.Files.holds c.args.files.now) (g.F.Files.faults c.args.files.now) input c.args.steps.now (g.O.Sink.written c.args.out.now) (g.O.Sink.faults c.args.out.now))
    (seen (g.F.Files.holds c.read_within.new.files) (g.F.Files.faults c.read_within.new.files) input c.args.steps.now (g.O.Sink.written c.args.out.now) (g.O.Sink.faults c.args.out.now)) c.in-Err.status
    (c.in-Err.ensures.err input c.args.steps.now (g.O.Sink.written c.args.out.now) (g.O.Sink.faults c.args.out.now))

pub returns : goal.returns
returns g c = λ input.
    let same = same_seen (g.F.Files.holds c.args.files.now) (g.F.Files.holds c.read_within.new.files) (g.F.Files.faults c.args.files.now)
    (g.F.Files.faults c.read_within.new.files) input c.args.steps.now (g.O.Sink.written c.args.out.now) (g.O.Sink.written c.args.out.now)
    (g.O.Sink.faults c.args.out.now) (g.O.Sink.faults c.args.out.now) c.in-Ok.ensures.holds c.in-Ok.ensures.entries refl refl in
    is_read c.in-Ok.bytes.items c.in-Ok.ensures.bytes c.in-Ok.ensures.short
    (subst (λ l. Explains c.args.language (script_lines l) (seen (g.F.Files.holds c.args.files.now) (g.F.Files.faults c.args.files.now) input c.args.steps.now (g.O.Sink.written c.args.out.now) (g.O.Sink.faults c.args.out.now)) (seen (g.F.Files.holds c.tell.new.files) (g.F.Files.faults c.tell.new.files) input c.tell.new.steps (g.O.Sink.written c.tell.new.out) (g.O.Sink.faults c.tell.new.out)) c.tell.result) c.as_slice.ensures.value
    (subst (λ (w : World). Explains c.args.language (script_lines c.as_slice.result.now) w (seen (g.F.Files.holds c.tell.new.files) (g.F.Files.faults c.tell.new.files) input c.tell.new.steps (g.O.Sink.written c.tell.new.out) (g.O.Sink.faults c.tell.new.out)) c.tell.result) same
    (c.tell.ensures input)))
