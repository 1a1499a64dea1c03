use Rattle.std.proofs.Common.{[], ap, subst}
use Rattle.psg_terms.specs.Names.{Name}
use Rattle.psg_grammar.specs.declared.types.Definition.{Definition}
use Rattle.psg_run.specs.Chain.{no_room_to_begin}
use Rattle.psg_run.specs.declared.framing.Framing.{Framing}
use Rattle.psg_run.specs.declared.framing.Framing.TheVariants as framings
use Rattle.psg_run.specs.declared.status.Status.{Status}
use Rattle.psg_run.specs.Framed.{written_by}
use Rattle.psg_run.specs.Live.{TalksBy}
use Rattle.psg_run.specs.Promise.{IsRunOf}
use Rattle.psg_run.specs.Reading.{OnDefinition, is_accepted, is_read}
use Rattle.psg_run.specs.Wanted.{living}
use Rattle.psg_run.specs.Worlds.{World, coming, seen}
use Rattle.psg_run.proofs.Onward.{definition_on, same_seen}
use Rattle.psg_run.proofs.program.live.Goals as goal

-- what is asked for, with the word or without
asks : (framing : Framing) (definition : Name) (old new : World) (status : Status)
    → OnDefinition definition (TalksBy (written_by framing)) old new status → IsRunOf (living framing definition) old new status
asks framings.Plain definition old new status h = h
asks framings.Framed definition old new status h = h

pub returns-in-Err : goal.returns-in-Err
returns-in-Err g c =
    asks c.args.framing c.args.definition.now _ _ _
    (definition_on c.args.definition.now (TalksBy (written_by c.args.framing)) (seen (g.F.Files.holds c.args.files.now) (g.F.Files.faults c.args.files.now) (coming (g.I.Input.lines c.args.input.now) (g.I.Input.given c.args.input.now) (g.I.Input.missed c.args.input.now)) c.args.steps.now (g.O.Sink.written c.args.out.now) (g.O.Sink.faults c.args.out.now))
    (seen (g.F.Files.holds c.read_language.new.files) (g.F.Files.faults c.read_language.new.files) (coming (g.I.Input.lines c.args.input.now) (g.I.Input.given c.args.input.now) (g.I.Input.missed c.args.input.now)) c.args.steps.now (g.O.Sink.written c.read_language.new.out) (g.O.Sink.faults c.read_language.new.out)) c.in-Err.status (c.in-Err.ensures.err (coming (g.I.Input.lines c.args.input.now) (g.I.Input.given c.args.input.now) (g.I.Input.missed c.args.input.now)) c.args.steps.now))

pub returns-in_default : goal.returns-in_default
returns-in_default g c =
    let (bytes, are, short, accepted) = c.in-Ok.ensures.ok in
    asks c.args.framing c.args.definition.now _ _ _
    (is_read bytes are short (is_accepted c.in-Ok.language accepted (
      [],
      no_room_to_begin
          (same_seen (g.F.Files.holds c.args.files.now) (g.F.Files.holds c.read_language.new.files) (g.F.Files.faults c.args.files.now)
          (g.F.Files.faults c.read_language.new.files) (coming (g.I.Input.lines c.args.input.now) (g.I.Input.given c.args.input.now) (g.I.Input.missed c.args.input.now)) c.args.steps.now (g.O.Sink.written c.args.out.now) (g.O.Sink.written c.read_language.new.out)
          (g.O.Sink.faults c.args.out.now) (g.O.Sink.faults c.read_language.new.out) c.in-Ok.ensures.holds c.in-Ok.ensures.entries
          (ap g.O.Sink.written c.in-Ok.ensures.quiet) (ap g.O.Sink.faults c.in-Ok.ensures.quiet)),
    )))

pub returns : goal.returns
returns g c =
    let (bytes, are, short, accepted) = c.in-Ok.ensures.ok in
    let same = same_seen (g.F.Files.holds c.args.files.now) (g.F.Files.holds c.read_language.new.files) (g.F.Files.faults c.args.files.now)
    (g.F.Files.faults c.read_language.new.files) (coming (g.I.Input.lines c.args.input.now) (g.I.Input.given c.args.input.now) (g.I.Input.missed c.args.input.now)) c.args.steps.now (g.O.Sink.written c.args.out.now) (g.O.Sink.written c.read_language.new.out)
    (g.O.Sink.faults c.args.out.now) (g.O.Sink.faults c.read_language.new.out) c.in-Ok.ensures.holds c.in-Ok.ensures.entries
    (ap g.O.Sink.written c.in-Ok.ensures.quiet) (ap g.O.Sink.faults c.in-Ok.ensures.quiet) in
    asks c.args.framing c.args.definition.now _ _ _
    (is_read bytes are short (is_accepted c.in-Ok.language accepted
    (subst (λ (d : Definition). TalksBy (written_by c.args.framing) d (seen (g.F.Files.holds c.args.files.now) (g.F.Files.faults c.args.files.now) (coming (g.I.Input.lines c.args.input.now) (g.I.Input.given c.args.input.now) (g.I.Input.missed c.args.input.now)) c.args.steps.now (g.O.Sink.written c.args.out.now) (g.O.Sink.faults c.args.out.now)) (seen (g.F.Files.holds c.talk.new.files) (g.F.Files.faults c.talk.new.files) (coming (g.I.Input.lines c.talk.new.input) (g.I.Input.given c.talk.new.input) (g.I.Input.missed c.talk.new.input)) c.talk.new.steps (g.O.Sink.written c.talk.new.out) (g.O.Sink.faults c.talk.new.out)) c.talk.result) c.in-Ok-new.ensures.language
    (subst (λ (w : World). TalksBy (written_by c.args.framing) c.in-Ok-new.session.language w (seen (g.F.Files.holds c.talk.new.files) (g.F.Files.faults c.talk.new.files) (coming (g.I.Input.lines c.talk.new.input) (g.I.Input.given c.talk.new.input) (g.I.Input.missed c.talk.new.input)) c.talk.new.steps (g.O.Sink.written c.talk.new.out) (g.O.Sink.faults c.talk.new.out)) c.talk.result) same c.talk.ensures))))
