use Rattle.std.proofs.Common.{ap, subst}
use Rattle.psg_run.specs.Explaining.{Explains}
use Rattle.psg_run.specs.Reading.{Reads, is_accepted, is_read, most_script_bytes}
use Rattle.psg_run.specs.Scripts.{script_lines}
use Rattle.psg_run.specs.Worlds.{World, seen}
use Rattle.psg_run.proofs.Onward.{definition_on, same_seen}
use Rattle.psg_run.proofs.explaining.explain_script.Goals as goal

pub returns-in-Err : goal.returns-in-Err
returns-in-Err g c = λ input.
    definition_on c.args.definition.now (λ def. Reads c.args.script.now most_script_bytes (λ bytes. Explains def (script_lines bytes)))
    (seen (g.F.Files.holds c.args.files.now) (g.F.Files.faults c.args.files.now) input c.args.steps.now (g.O.Sink.written c.args.out.now) (g.O.Sink.faults c.args.out.now))
    (seen (g.F.Files.holds c.read_language.new.files) (g.F.Files.faults c.read_language.new.files) input c.args.steps.now (g.O.Sink.written c.read_language.new.out) (g.O.Sink.faults c.read_language.new.out)) c.in-Err.status (c.in-Err.ensures.err input c.args.steps.now)

pub returns : goal.returns
returns g c = λ input.
    let (bytes, are, short, accepted) = c.in-Ok.ensures.ok in
    let same = same_seen (g.F.Files.holds c.args.files.now) (g.F.Files.holds c.read_language.new.files) (g.F.Files.faults c.args.files.now)
    (g.F.Files.faults c.read_language.new.files) input c.args.steps.now (g.O.Sink.written c.args.out.now) (g.O.Sink.written c.read_language.new.out)
    (g.O.Sink.faults c.args.out.now) (g.O.Sink.faults c.read_language.new.out) c.in-Ok.ensures.holds c.in-Ok.ensures.entries
    (ap g.O.Sink.written c.in-Ok.ensures.quiet) (ap g.O.Sink.faults c.in-Ok.ensures.quiet) in
    is_read bytes are short (is_accepted c.in-Ok.language accepted
    (subst (λ (w : World). Reads c.args.script.now most_script_bytes (λ bytes. Explains c.in-Ok.language (script_lines bytes)) w (seen (g.F.Files.holds c.explain_file.new.files) (g.F.Files.faults c.explain_file.new.files) input c.explain_file.new.steps (g.O.Sink.written c.explain_file.new.out) (g.O.Sink.faults c.explain_file.new.out)) c.explain_file.result) same
    (c.explain_file.ensures input)))
