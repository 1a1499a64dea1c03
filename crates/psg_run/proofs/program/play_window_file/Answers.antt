use Rattle.std.proofs.Common.{refl, subst}
use Rattle.psg_grammar.specs.declared.types.Definition.{Definition}
use Rattle.psg_run.specs.Chain.{no_room_to_begin}
use Rattle.psg_run.specs.Windowed.{PlaysWindows}
use Rattle.psg_run.specs.Reading.{is_read}
use Rattle.psg_run.specs.Scripts.{script_lines}
use Rattle.psg_run.specs.Worlds.{World, seen}
use Rattle.psg_run.proofs.Onward.{reads_on, same_seen}
use Rattle.psg_run.proofs.program.play_window_file.Goals as goal

pub returns-in-Err : goal.returns-in-Err
returns-in-Err g c = λ input.
    reads_on c.args.script.now _ (λ bytes. PlaysWindows c.args.language (script_lines bytes)) (seen (g.F.Files.holds c.args.files.now) (g.F.Files.faults c.args.files.now) input c.args.steps.now (g.O.Sink.written c.args.out.now) (g.O.Sink.faults c.args.out.now))
    (seen (g.F.Files.holds c.read_within.new.files) (g.F.Files.faults c.read_within.new.files) input c.args.steps.now (g.O.Sink.written c.args.out.now) (g.O.Sink.faults c.args.out.now)) c.in-Err.status
    (c.in-Err.ensures.err input c.args.steps.now (g.O.Sink.written c.args.out.now) (g.O.Sink.faults c.args.out.now))

pub returns-in_default : goal.returns-in_default
returns-in_default g c = λ input.
    is_read c.in-Ok.bytes.items c.in-Ok.ensures.bytes c.in-Ok.ensures.short (no_room_to_begin
    (same_seen (g.F.Files.holds c.args.files.now) (g.F.Files.holds c.read_within.new.files) (g.F.Files.faults c.args.files.now)
    (g.F.Files.faults c.read_within.new.files) input c.args.steps.now (g.O.Sink.written c.args.out.now) (g.O.Sink.written c.args.out.now)
    (g.O.Sink.faults c.args.out.now) (g.O.Sink.faults c.args.out.now) c.in-Ok.ensures.holds c.in-Ok.ensures.entries refl refl))

pub returns : goal.returns
returns g c = λ input.
    let same = same_seen (g.F.Files.holds c.args.files.now) (g.F.Files.holds c.read_within.new.files) (g.F.Files.faults c.args.files.now)
    (g.F.Files.faults c.read_within.new.files) input c.args.steps.now (g.O.Sink.written c.args.out.now) (g.O.Sink.written c.args.out.now)
    (g.O.Sink.faults c.args.out.now) (g.O.Sink.faults c.args.out.now) c.in-Ok.ensures.holds c.in-Ok.ensures.entries refl refl in
    is_read c.in-Ok.bytes.items c.in-Ok.ensures.bytes c.in-Ok.ensures.short
    (subst (λ (d : Definition). PlaysWindows d (script_lines c.in-Ok.bytes.items) (seen (g.F.Files.holds c.args.files.now) (g.F.Files.faults c.args.files.now) input c.args.steps.now (g.O.Sink.written c.args.out.now) (g.O.Sink.faults c.args.out.now)) (seen (g.F.Files.holds c.play_windows.new.files) (g.F.Files.faults c.play_windows.new.files) input c.play_windows.new.steps (g.O.Sink.written c.play_windows.new.out) (g.O.Sink.faults c.play_windows.new.out)) c.play_windows.result) c.in-Ok-new.ensures.language
    (subst (λ l. PlaysWindows c.in-Ok-new.session.language (script_lines l) (seen (g.F.Files.holds c.args.files.now) (g.F.Files.faults c.args.files.now) input c.args.steps.now (g.O.Sink.written c.args.out.now) (g.O.Sink.faults c.args.out.now)) (seen (g.F.Files.holds c.play_windows.new.files) (g.F.Files.faults c.play_windows.new.files) input c.play_windows.new.steps (g.O.Sink.written c.play_windows.new.out) (g.O.Sink.faults c.play_windows.new.out)) c.play_windows.result) c.as_slice.ensures.value
    (subst (λ (w : World). PlaysWindows c.in-Ok-new.session.language (script_lines c.as_slice.result.now) w (seen (g.F.Files.holds c.play_windows.new.files) (g.F.Files.faults c.play_windows.new.files) input c.play_windows.new.steps (g.O.Sink.written c.play_windows.new.out) (g.O.Sink.faults c.play_windows.new.out)) c.play_windows.result) same (c.play_windows.ensures input))))
