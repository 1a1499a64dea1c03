use Rattle.std.proofs.Common.{ap, subst}
use Rattle.std.specs.Prelude.{codes}
use Rattle.psg_session.specs.Replies.{feed}
use Rattle.psg_run.specs.declared.status.Status.TheVariants as ends_with
use Rattle.psg_run.specs.Reading.{is_accepted, is_read}
use Rattle.psg_run.specs.Worlds.{Puts, World, seen}
use Rattle.psg_run.proofs.Onward.{definition_on, same_seen}
use Rattle.psg_run.proofs.program.check.Goals as goal

pub returns-in-Err : goal.returns-in-Err
returns-in-Err g c = λ input ticks.
    definition_on c.args.definition.now (λ def. Puts (feed (codes "accepted")) ends_with.Done) (seen (g.F.Files.holds c.args.files.now) (g.F.Files.faults c.args.files.now) input ticks (g.O.Sink.written c.args.out.now) (g.O.Sink.faults c.args.out.now))
    (seen (g.F.Files.holds c.read_language.new.files) (g.F.Files.faults c.read_language.new.files) input ticks (g.O.Sink.written c.read_language.new.out) (g.O.Sink.faults c.read_language.new.out)) c.in-Err.status (c.in-Err.ensures.err input ticks)

pub returns : goal.returns
returns g c = λ input ticks.
    let (bytes, are, short, accepted) = c.in_default.ensures.ok in
    let same = same_seen (g.F.Files.holds c.args.files.now) (g.F.Files.holds c.read_language.new.files) (g.F.Files.faults c.args.files.now)
    (g.F.Files.faults c.read_language.new.files) input ticks (g.O.Sink.written c.args.out.now) (g.O.Sink.written c.read_language.new.out)
    (g.O.Sink.faults c.args.out.now) (g.O.Sink.faults c.read_language.new.out) c.in_default.ensures.holds c.in_default.ensures.entries
    (ap g.O.Sink.written c.in_default.ensures.quiet) (ap g.O.Sink.faults c.in_default.ensures.quiet) in
    is_read bytes are short (is_accepted c.in_default.field-0 accepted
    (subst (λ (w : World). Puts (feed (codes "accepted")) ends_with.Done w (seen (g.F.Files.holds c.read_language.new.files) (g.F.Files.faults c.read_language.new.files) input ticks (g.O.Sink.written c.put_line.new.out) (g.O.Sink.faults c.put_line.new.out)) c.put_line.result) same
    (c.put_line.ensures (record { held = g.F.Files.holds c.read_language.new.files; entries = g.F.Files.faults c.read_language.new.files }) input ticks)))
