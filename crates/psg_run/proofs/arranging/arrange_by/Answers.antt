use Rattle.std.proofs.Common.{◌<◌, ◌≤◌, ◌^◌, length, refl, ap, sym, subst, arith}
use Rattle.psg_run.specs.Arranging.{Arranges, IsReadLayout, ReadsLayout, is_layout, most_layout_bytes}
use Rattle.psg_run.specs.Reading.{Nowhere, is_read}
use Rattle.psg_run.specs.Scripts.{script_lines}
use Rattle.psg_run.specs.Worlds.{World, seen}
use Rattle.psg_run.proofs.Laying.{lays_on}
use Rattle.psg_run.proofs.Onward.{reads_on, same_seen}
use Rattle.psg_run.proofs.arranging.arrange_by.Goals as goal

pub returns-in-Err : goal.returns-in-Err
returns-in-Err g c = λ input.
    reads_on c.args.rules.now most_layout_bytes (λ bytes. ReadsLayout c.args.language bytes (λ layout. Arranges c.args.language layout c.args.columns (script_lines c.args.script.now)))
    (seen (g.F.Files.holds c.args.files.now) (g.F.Files.faults c.args.files.now) input c.args.steps.now (g.O.Sink.written c.args.out.now) (g.O.Sink.faults c.args.out.now))
    (seen (g.F.Files.holds c.read_within.new.files) (g.F.Files.faults c.read_within.new.files) input c.args.steps.now (g.O.Sink.written c.args.out.now) (g.O.Sink.faults c.args.out.now)) c.in-Err.status
    (c.in-Err.ensures.err input c.args.steps.now (g.O.Sink.written c.args.out.now) (g.O.Sink.faults c.args.out.now))

pub layout_of-requires : goal.layout_of-requires
layout_of-requires g c =
    let short : length c.in-Ok.bytes.items ≤ most_layout_bytes = c.in-Ok.ensures.short in
    subst (λ b. length b < 2 ^ 32) (sym c.as_slice.ensures.value) (omega (arith, short))

pub returns-in-Err-layout_of : goal.returns-in-Err-layout_of
returns-in-Err-layout_of g c = λ input.
    let same = same_seen (g.F.Files.holds c.args.files.now) (g.F.Files.holds c.read_within.new.files) (g.F.Files.faults c.args.files.now)
    (g.F.Files.faults c.read_within.new.files) input c.args.steps.now (g.O.Sink.written c.args.out.now) (g.O.Sink.written c.args.out.now)
    (g.O.Sink.faults c.args.out.now) (g.O.Sink.faults c.args.out.now) c.in-Ok.ensures.holds c.in-Ok.ensures.entries refl refl in
    is_read c.in-Ok.bytes.items c.in-Ok.ensures.bytes c.in-Ok.ensures.short
    (lays_on c.args.language c.in-Ok.bytes.items (λ layout. Arranges c.args.language layout c.args.columns (script_lines c.args.script.now))
    (seen (g.F.Files.holds c.args.files.now) (g.F.Files.faults c.args.files.now) input c.args.steps.now (g.O.Sink.written c.args.out.now) (g.O.Sink.faults c.args.out.now))
    (seen (g.F.Files.holds c.read_within.new.files) (g.F.Files.faults c.read_within.new.files) input c.args.steps.now (g.O.Sink.written c.layout_of.new.out) (g.O.Sink.faults c.layout_of.new.out)) c.in-Err-layout_of.refused
    (subst (λ b. ReadsLayout c.args.language b (λ _. Nowhere) (seen (g.F.Files.holds c.args.files.now) (g.F.Files.faults c.args.files.now) input c.args.steps.now (g.O.Sink.written c.args.out.now) (g.O.Sink.faults c.args.out.now)) (seen (g.F.Files.holds c.read_within.new.files) (g.F.Files.faults c.read_within.new.files) input c.args.steps.now (g.O.Sink.written c.layout_of.new.out) (g.O.Sink.faults c.layout_of.new.out)) c.in-Err-layout_of.refused) c.as_slice.ensures.value
    (subst (λ (w : World). ReadsLayout c.args.language c.as_slice.result.now (λ _. Nowhere) w (seen (g.F.Files.holds c.read_within.new.files) (g.F.Files.faults c.read_within.new.files) input c.args.steps.now (g.O.Sink.written c.layout_of.new.out) (g.O.Sink.faults c.layout_of.new.out)) c.in-Err-layout_of.refused) same
    (c.in-Err-layout_of.ensures.err (record { held = g.F.Files.holds c.read_within.new.files; entries = g.F.Files.faults c.read_within.new.files }) input c.args.steps.now))))

pub returns : goal.returns
returns g c = λ input.
    let same = same_seen (g.F.Files.holds c.args.files.now) (g.F.Files.holds c.read_within.new.files) (g.F.Files.faults c.args.files.now)
    (g.F.Files.faults c.read_within.new.files) input c.args.steps.now (g.O.Sink.written c.args.out.now) (g.O.Sink.written c.layout_of.new.out)
    (g.O.Sink.faults c.args.out.now) (g.O.Sink.faults c.layout_of.new.out) c.in-Ok.ensures.holds c.in-Ok.ensures.entries (ap g.O.Sink.written c.in-Ok-layout_of.ensures.quiet) (ap g.O.Sink.faults c.in-Ok-layout_of.ensures.quiet) in
    is_read c.in-Ok.bytes.items c.in-Ok.ensures.bytes c.in-Ok.ensures.short
    (is_layout c.in-Ok-layout_of.layout (subst (λ b. IsReadLayout c.args.language b c.in-Ok-layout_of.layout) c.as_slice.ensures.value c.in-Ok-layout_of.ensures.ok)
    (subst (λ (w : World). Arranges c.args.language c.in-Ok-layout_of.layout c.args.columns (script_lines c.args.script.now) w (seen (g.F.Files.holds c.tell.new.files) (g.F.Files.faults c.tell.new.files) input c.tell.new.steps (g.O.Sink.written c.tell.new.out) (g.O.Sink.faults c.tell.new.out)) c.tell.result) same
    (c.tell.ensures input)))
