use Rattle.std.proofs.Common.{refl, sym, ◌∙◌, subst}
use Rattle.std.proofs.Math.Nat.{le_refl, le_trans}
use Rattle.psg_grammar.specs.declared.types.Definition.{Definition}
use Rattle.psg_session.specs.Sessions.{state_of}
use Rattle.psg_run.specs.declared.status.Status.TheVariants as ends_with
use Rattle.psg_run.specs.Endings.{read_status}
use Rattle.psg_run.specs.Framed.{written_by}
use Rattle.psg_run.specs.Live.{TalksBy, heard, no_room_for_line}
use Rattle.psg_run.specs.Playing.{AreOf}
use Rattle.psg_run.specs.Worlds.{coming, seen}
use Rattle.psg_run.proofs.Listening.{LiveSoFar, gives_piece, input_closes, input_ends, input_stops, listens, turn_ends, turned}
use Rattle.psg_run.proofs.live.talk.Goals as goal

pub loop-init : goal.loop-init
loop-init g c = record {
  so_far = listens (written_by c.args.framing) c.args.session.now.language (state_of c.args.session.now.editor) (seen (g.F.Files.holds c.args.files.now) (g.F.Files.faults c.args.files.now) (coming (g.I.Input.lines c.args.input.now) (g.I.Input.given c.args.input.now) (g.I.Input.missed c.args.input.now)) c.args.steps.now (g.O.Sink.written c.args.out.now) (g.O.Sink.faults c.args.out.now)) c.requires.start;
  language = refl;
  never_falls = le_refl _;
}

pub returns-in-Err-play_some : goal.returns-in-Err-play_some
returns-in-Err-play_some g c =
    let (line, gives, same) = (gives_piece (coming (g.I.Input.lines c.loop.input) (g.I.Input.given c.loop.input) (g.I.Input.missed c.loop.input)) (coming (g.I.Input.lines c.next_line.new.self) (g.I.Input.given c.next_line.new.self) (g.I.Input.missed c.next_line.new.self)) c.in-Ok-Some.piece (rw c.in-Ok-Some.field-0-is at c.in-Ok-Some.ensures.gives)
    (rw c.in-Ok-Some.field-0-is at c.in-Ok-Some.ensures.counted) (rw c.in-Ok-Some.field-0-is at c.in-Ok-Some.ensures.entries)) in
    subst (λ (d : Definition). TalksBy (written_by c.args.framing) d (seen (g.F.Files.holds c.args.files.now) (g.F.Files.faults c.args.files.now) (coming (g.I.Input.lines c.args.input.now) (g.I.Input.given c.args.input.now) (g.I.Input.missed c.args.input.now)) c.args.steps.now (g.O.Sink.written c.args.out.now) (g.O.Sink.faults c.args.out.now)) (seen (g.F.Files.holds c.play_some.new.files) (g.F.Files.faults c.play_some.new.files) (coming (g.I.Input.lines c.next_line.new.self) (g.I.Input.given c.next_line.new.self) (g.I.Input.missed c.next_line.new.self)) c.play_some.new.steps (g.O.Sink.written c.play_some.new.out) (g.O.Sink.faults c.play_some.new.out)) c.in-Err-play_some.status) c.loop.invariant.language
    (turn_ends (written_by c.args.framing) c.loop.session.language (state_of c.loop.session.editor) (seen (g.F.Files.holds c.args.files.now) (g.F.Files.faults c.args.files.now) (coming (g.I.Input.lines c.args.input.now) (g.I.Input.given c.args.input.now) (g.I.Input.missed c.args.input.now)) c.args.steps.now (g.O.Sink.written c.args.out.now) (g.O.Sink.faults c.args.out.now)) (seen (g.F.Files.holds c.loop.files) (g.F.Files.faults c.loop.files) (coming (g.I.Input.lines c.loop.input) (g.I.Input.given c.loop.input) (g.I.Input.missed c.loop.input)) c.loop.steps (g.O.Sink.written c.loop.out) (g.O.Sink.faults c.loop.out)) c.loop.invariant.so_far (coming (g.I.Input.lines c.next_line.new.self) (g.I.Input.given c.next_line.new.self) (g.I.Input.missed c.next_line.new.self))
    line c.in-Ok-Some.piece.items gives same (seen (g.F.Files.holds c.play_some.new.files) (g.F.Files.faults c.play_some.new.files) (coming (g.I.Input.lines c.next_line.new.self) (g.I.Input.given c.next_line.new.self) (g.I.Input.missed c.next_line.new.self)) c.play_some.new.steps (g.O.Sink.written c.play_some.new.out) (g.O.Sink.faults c.play_some.new.out)) c.in-Err-play_some.status c.loop.invariant.never_falls
    (c.in-Err-play_some.ensures.err (coming (g.I.Input.lines c.next_line.new.self) (g.I.Input.given c.next_line.new.self) (g.I.Input.missed c.next_line.new.self)) c.loop.invariant.so_far.reply (heard c.in-Ok-Some.piece.items) (subst (λ l. AreOf (heard l) c.heard-line.result) c.as_slice.ensures.value c.heard-line.ensures)))

pub returns-in-Ok-None : goal.returns-in-Ok-None
returns-in-Ok-None g c =
    subst (λ (d : Definition). TalksBy (written_by c.args.framing) d (seen (g.F.Files.holds c.args.files.now) (g.F.Files.faults c.args.files.now) (coming (g.I.Input.lines c.args.input.now) (g.I.Input.given c.args.input.now) (g.I.Input.missed c.args.input.now)) c.args.steps.now (g.O.Sink.written c.args.out.now) (g.O.Sink.faults c.args.out.now)) (seen (g.F.Files.holds c.loop.files) (g.F.Files.faults c.loop.files) (coming (g.I.Input.lines c.next_line.new.self) (g.I.Input.given c.next_line.new.self) (g.I.Input.missed c.next_line.new.self)) c.loop.steps (g.O.Sink.written c.loop.out) (g.O.Sink.faults c.loop.out)) ends_with.Done) c.loop.invariant.language
    (input_closes (written_by c.args.framing) c.loop.session.language (state_of c.loop.session.editor) (seen (g.F.Files.holds c.args.files.now) (g.F.Files.faults c.args.files.now) (coming (g.I.Input.lines c.args.input.now) (g.I.Input.given c.args.input.now) (g.I.Input.missed c.args.input.now)) c.args.steps.now (g.O.Sink.written c.args.out.now) (g.O.Sink.faults c.args.out.now)) (seen (g.F.Files.holds c.loop.files) (g.F.Files.faults c.loop.files) (coming (g.I.Input.lines c.loop.input) (g.I.Input.given c.loop.input) (g.I.Input.missed c.loop.input)) c.loop.steps (g.O.Sink.written c.loop.out) (g.O.Sink.faults c.loop.out)) c.loop.invariant.so_far (coming (g.I.Input.lines c.next_line.new.self) (g.I.Input.given c.next_line.new.self) (g.I.Input.missed c.next_line.new.self)) ends_with.Done
    (input_ends (coming (g.I.Input.lines c.loop.input) (g.I.Input.given c.loop.input) (g.I.Input.missed c.loop.input)) (coming (g.I.Input.lines c.next_line.new.self) (g.I.Input.given c.next_line.new.self) (g.I.Input.missed c.next_line.new.self)) (rw c.in-Ok-None.field-0-is at c.in-Ok-None.ensures.gives)
    (rw c.in-Ok-None.field-0-is at c.in-Ok-None.ensures.counted) (rw c.in-Ok-None.field-0-is at c.in-Ok-None.ensures.entries)))

pub returns-in-Err : goal.returns-in-Err
returns-in-Err g c =
    subst (λ s. TalksBy (written_by c.args.framing) c.args.session.now.language (seen (g.F.Files.holds c.args.files.now) (g.F.Files.faults c.args.files.now) (coming (g.I.Input.lines c.args.input.now) (g.I.Input.given c.args.input.now) (g.I.Input.missed c.args.input.now)) c.args.steps.now (g.O.Sink.written c.args.out.now) (g.O.Sink.faults c.args.out.now)) (seen (g.F.Files.holds c.loop.files) (g.F.Files.faults c.loop.files) (coming (g.I.Input.lines c.next_line.new.self) (g.I.Input.given c.next_line.new.self) (g.I.Input.missed c.next_line.new.self)) c.loop.steps (g.O.Sink.written c.loop.out) (g.O.Sink.faults c.loop.out)) s) (sym c.read_status.ensures)
    (subst (λ (d : Definition). TalksBy (written_by c.args.framing) d (seen (g.F.Files.holds c.args.files.now) (g.F.Files.faults c.args.files.now) (coming (g.I.Input.lines c.args.input.now) (g.I.Input.given c.args.input.now) (g.I.Input.missed c.args.input.now)) c.args.steps.now (g.O.Sink.written c.args.out.now) (g.O.Sink.faults c.args.out.now)) (seen (g.F.Files.holds c.loop.files) (g.F.Files.faults c.loop.files) (coming (g.I.Input.lines c.next_line.new.self) (g.I.Input.given c.next_line.new.self) (g.I.Input.missed c.next_line.new.self)) c.loop.steps (g.O.Sink.written c.loop.out) (g.O.Sink.faults c.loop.out)) (read_status c.in-Err.stop)) c.loop.invariant.language
    (input_closes (written_by c.args.framing) c.loop.session.language (state_of c.loop.session.editor) (seen (g.F.Files.holds c.args.files.now) (g.F.Files.faults c.args.files.now) (coming (g.I.Input.lines c.args.input.now) (g.I.Input.given c.args.input.now) (g.I.Input.missed c.args.input.now)) c.args.steps.now (g.O.Sink.written c.args.out.now) (g.O.Sink.faults c.args.out.now)) (seen (g.F.Files.holds c.loop.files) (g.F.Files.faults c.loop.files) (coming (g.I.Input.lines c.loop.input) (g.I.Input.given c.loop.input) (g.I.Input.missed c.loop.input)) c.loop.steps (g.O.Sink.written c.loop.out) (g.O.Sink.faults c.loop.out)) c.loop.invariant.so_far (coming (g.I.Input.lines c.next_line.new.self) (g.I.Input.given c.next_line.new.self) (g.I.Input.missed c.next_line.new.self)) (read_status c.in-Err.stop)
    (input_stops (coming (g.I.Input.lines c.loop.input) (g.I.Input.given c.loop.input) (g.I.Input.missed c.loop.input)) (coming (g.I.Input.lines c.next_line.new.self) (g.I.Input.given c.next_line.new.self) (g.I.Input.missed c.next_line.new.self)) c.in-Err.stop c.in-Err.ensures.counted c.in-Err.ensures.entries)))

pub loop-preserved : goal.loop-preserved
loop-preserved g c =
    let (line, gives, same) = (gives_piece (coming (g.I.Input.lines c.loop.input) (g.I.Input.given c.loop.input) (g.I.Input.missed c.loop.input)) (coming (g.I.Input.lines c.next_line.new.self) (g.I.Input.given c.next_line.new.self) (g.I.Input.missed c.next_line.new.self)) c.in-Ok-Some.piece (rw c.in-Ok-Some.field-0-is at c.in-Ok-Some.ensures.gives)
    (rw c.in-Ok-Some.field-0-is at c.in-Ok-Some.ensures.counted) (rw c.in-Ok-Some.field-0-is at c.in-Ok-Some.ensures.entries)) in
    record {
      so_far = subst (λ (d : Definition). LiveSoFar (written_by c.args.framing) d (state_of c.play_some.new.session.editor) (seen (g.F.Files.holds c.args.files.now) (g.F.Files.faults c.args.files.now) (coming (g.I.Input.lines c.args.input.now) (g.I.Input.given c.args.input.now) (g.I.Input.missed c.args.input.now)) c.args.steps.now (g.O.Sink.written c.args.out.now) (g.O.Sink.faults c.args.out.now)) (seen (g.F.Files.holds c.play_some.new.files) (g.F.Files.faults c.play_some.new.files) (coming (g.I.Input.lines c.next_line.new.self) (g.I.Input.given c.next_line.new.self) (g.I.Input.missed c.next_line.new.self)) c.play_some.new.steps (g.O.Sink.written c.play_some.new.out) (g.O.Sink.faults c.play_some.new.out))) (sym c.in_default.ensures.language)
          (turned (written_by c.args.framing) c.loop.session.language (state_of c.loop.session.editor) (seen (g.F.Files.holds c.args.files.now) (g.F.Files.faults c.args.files.now) (coming (g.I.Input.lines c.args.input.now) (g.I.Input.given c.args.input.now) (g.I.Input.missed c.args.input.now)) c.args.steps.now (g.O.Sink.written c.args.out.now) (g.O.Sink.faults c.args.out.now)) (seen (g.F.Files.holds c.loop.files) (g.F.Files.faults c.loop.files) (coming (g.I.Input.lines c.loop.input) (g.I.Input.given c.loop.input) (g.I.Input.missed c.loop.input)) c.loop.steps (g.O.Sink.written c.loop.out) (g.O.Sink.faults c.loop.out)) c.loop.invariant.so_far (coming (g.I.Input.lines c.next_line.new.self) (g.I.Input.given c.next_line.new.self) (g.I.Input.missed c.next_line.new.self))
          line c.in-Ok-Some.piece.items gives same (state_of c.play_some.new.session.editor) (seen (g.F.Files.holds c.play_some.new.files) (g.F.Files.faults c.play_some.new.files) (coming (g.I.Input.lines c.next_line.new.self) (g.I.Input.given c.next_line.new.self) (g.I.Input.missed c.next_line.new.self)) c.play_some.new.steps (g.O.Sink.written c.play_some.new.out) (g.O.Sink.faults c.play_some.new.out))
          (c.in_default.ensures.ok (coming (g.I.Input.lines c.next_line.new.self) (g.I.Input.given c.next_line.new.self) (g.I.Input.missed c.next_line.new.self)) c.loop.invariant.so_far.reply (heard c.in-Ok-Some.piece.items) (subst (λ l. AreOf (heard l) c.heard-line.result) c.as_slice.ensures.value c.heard-line.ensures)));
      language = c.in_default.ensures.language ∙ c.loop.invariant.language;
      never_falls = le_trans c.loop.invariant.never_falls c.in_default.ensures.never_falls;
    }

pub returns : goal.returns
returns g c =
    subst (λ (d : Definition). TalksBy (written_by c.args.framing) d (seen (g.F.Files.holds c.args.files.now) (g.F.Files.faults c.args.files.now) (coming (g.I.Input.lines c.args.input.now) (g.I.Input.given c.args.input.now) (g.I.Input.missed c.args.input.now)) c.args.steps.now (g.O.Sink.written c.args.out.now) (g.O.Sink.faults c.args.out.now)) (seen (g.F.Files.holds c.loop.files) (g.F.Files.faults c.loop.files) (coming (g.I.Input.lines c.loop.input) (g.I.Input.given c.loop.input) (g.I.Input.missed c.loop.input)) c.loop.steps (g.O.Sink.written c.loop.out) (g.O.Sink.faults c.loop.out)) ends_with.Memory) c.loop.invariant.language
    (input_closes (written_by c.args.framing) c.loop.session.language (state_of c.loop.session.editor) (seen (g.F.Files.holds c.args.files.now) (g.F.Files.faults c.args.files.now) (coming (g.I.Input.lines c.args.input.now) (g.I.Input.given c.args.input.now) (g.I.Input.missed c.args.input.now)) c.args.steps.now (g.O.Sink.written c.args.out.now) (g.O.Sink.faults c.args.out.now)) (seen (g.F.Files.holds c.loop.files) (g.F.Files.faults c.loop.files) (coming (g.I.Input.lines c.loop.input) (g.I.Input.given c.loop.input) (g.I.Input.missed c.loop.input)) c.loop.steps (g.O.Sink.written c.loop.out) (g.O.Sink.faults c.loop.out)) c.loop.invariant.so_far (coming (g.I.Input.lines c.loop.input) (g.I.Input.given c.loop.input) (g.I.Input.missed c.loop.input)) ends_with.Memory (no_room_for_line refl refl))
