use Rattle.std.proofs.Common.{◌∙◌, ap, refl, subst}
use Rattle.psg_defcomment.specs.Reading.{comment_of}
use Rattle.std.proofs.lemmas.Result.{err_from_is_err_and}
use Rattle.psg_run.specs.Reading.{Defines, IsAccepted, Nowhere, is_read, most_definition_bytes}
use Rattle.psg_run.specs.Worlds.{World, seen}
use Rattle.psg_run.proofs.Onward.{reads_on, same_seen}
use Rattle.psg_run.proofs.source.read_defined.Goals as goal

pub returns-in_err-bytes-clause-err : goal.returns-in_err-bytes-clause-err
returns-in_err-bytes-clause-err g c =
    let p = err_from_is_err_and c.from_residual.result c.from_residual.ensures.1 in
    rw (p.1, p.2) (λ input ticks.
    reads_on c.args.file.now most_definition_bytes (λ bytes. Defines bytes (λ _. Nowhere)) (seen (g.F.Files.holds c.args.files.now) (g.F.Files.faults c.args.files.now) input ticks (g.O.Sink.written c.args.out.now) (g.O.Sink.faults c.args.out.now)) (seen (g.F.Files.holds c.read_within.new.files) (g.F.Files.faults c.read_within.new.files) input ticks (g.O.Sink.written c.args.out.now) (g.O.Sink.faults c.args.out.now)) c.in_err-bytes.field-0.0
    (c.in_err-bytes.ensures.err input ticks (g.O.Sink.written c.args.out.now) (g.O.Sink.faults c.args.out.now)))

pub returns-in_err-defined-clause-err : goal.returns-in_err-defined-clause-err
returns-in_err-defined-clause-err g c =
    let p = err_from_is_err_and c.from_residual-in_err-defined.result c.from_residual-in_err-defined.ensures.1 in
    rw (p.1, p.2) (λ input ticks.
    is_read c.in_ok-bytes.bytes.items c.in_ok-bytes.ensures.bytes c.in_ok-bytes.ensures.short
    (subst (λ b. Defines b (λ _. Nowhere) (seen (g.F.Files.holds c.args.files.now) (g.F.Files.faults c.args.files.now) input ticks (g.O.Sink.written c.args.out.now) (g.O.Sink.faults c.args.out.now)) (seen (g.F.Files.holds c.read_within.new.files) (g.F.Files.faults c.read_within.new.files) input ticks (g.O.Sink.written c.defined_of.new.out) (g.O.Sink.faults c.defined_of.new.out)) c.in_err-defined.field-0.0) c.as_slice.ensures.value
    (subst (λ (w : World). Defines c.as_slice.result.now (λ _. Nowhere) w (seen (g.F.Files.holds c.read_within.new.files) (g.F.Files.faults c.read_within.new.files) input ticks (g.O.Sink.written c.defined_of.new.out) (g.O.Sink.faults c.defined_of.new.out)) c.in_err-defined.field-0.0) (same_seen (g.F.Files.holds c.args.files.now) (g.F.Files.holds c.read_within.new.files) (g.F.Files.faults c.args.files.now)
    (g.F.Files.faults c.read_within.new.files) input ticks (g.O.Sink.written c.args.out.now) (g.O.Sink.written c.args.out.now)
    (g.O.Sink.faults c.args.out.now) (g.O.Sink.faults c.args.out.now) c.in_ok-bytes.ensures.holds c.in_ok-bytes.ensures.entries refl refl)
    (c.in_err-defined.ensures.err (record { held = g.F.Files.holds c.read_within.new.files; entries = g.F.Files.faults c.read_within.new.files }) input ticks))))

pub returns-clause-ok : goal.returns-clause-ok
returns-clause-ok g c = (
  c.in_ok-bytes.bytes.items,
  c.in_ok-bytes.ensures.bytes,
  c.in_ok-bytes.ensures.short,
  subst (λ b. IsAccepted b c.in_ok-defined.defined.language) c.as_slice.ensures.value c.in_ok-defined.ensures.ok,
  c.in_ok-defined.ensures.comment ∙ ap comment_of c.as_slice.ensures.value,
)
