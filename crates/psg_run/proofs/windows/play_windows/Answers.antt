use Rattle.std.proofs.Common.{◌∷◌, [], refl, sym, ◌∙◌, subst}
use Rattle.std.proofs.Math.Nat.{le_refl, le_trans}
use Rattle.psg_grammar.specs.declared.types.Definition.{Definition}
use Rattle.psg_session.specs.Sessions.{state_of}
use Rattle.psg_session.proofs.Options.{empty_is}
use Rattle.psg_run.specs.Chain.{no_room_to_begin}
use Rattle.psg_run.specs.Scripts.{kept_lines, script_lines}
use Rattle.psg_run.specs.Windowed.{BreaksFor, IsPlayedFor, PlaysWindows, Windowed, new_windows, windowed}
use Rattle.psg_run.specs.Worlds.{seen}
use Rattle.psg_run.proofs.Turning.{TurnsSoFar, turn_played, turn_stopped, turns_begin, turns_finished}
use Rattle.psg_run.proofs.WindowLines.{same_windowed}
use Rattle.psg_run.proofs.windows.play_windows.Goals as goal

pub returns-in_default : goal.returns-in_default
returns-in_default g c = λ input. no_room_to_begin refl

pub loop-rest-init : goal.loop-rest-init
loop-rest-init g c = record {
  so_far = λ input. turns_begin Windowed (IsPlayedFor c.args.session.now.language) c.args.script.now new_windows
      (windowed (state_of c.args.session.now.editor) c.in-Ok.cursors)
      (seen (g.F.Files.holds c.args.files.now) (g.F.Files.faults c.args.files.now) input c.args.steps.now (g.O.Sink.written c.args.out.now) (g.O.Sink.faults c.args.out.now))
      (same_windowed c.requires.start c.in-Ok.ensures);
  language = refl;
  never_falls = le_refl _;
}

pub loop-rest-smaller : goal.loop-rest-smaller
loop-rest-smaller g c = c.cut_line-cut.ensures.shorter

pub returns-in-Err : goal.returns-in-Err
returns-in-Err g c = λ input.
    subst (λ (d : Definition). PlaysWindows d (script_lines c.args.script.now)
    (seen (g.F.Files.holds c.args.files.now) (g.F.Files.faults c.args.files.now) input c.args.steps.now (g.O.Sink.written c.args.out.now) (g.O.Sink.faults c.args.out.now))
    (seen (g.F.Files.holds c.play_some.new.files) (g.F.Files.faults c.play_some.new.files) input c.play_some.new.steps (g.O.Sink.written c.play_some.new.out) (g.O.Sink.faults c.play_some.new.out)) c.in-Err.status) c.loop-rest.invariant.language
    (turn_stopped Windowed (IsPlayedFor c.loop-rest.session.language) (script_lines c.args.script.now) c.loop-rest.rest.now
    c.cut_line-cut.result.rest.now c.cut_line-cut.result.line.now new_windows (windowed (state_of c.loop-rest.session.editor) c.loop-rest.cursors)
    (seen (g.F.Files.holds c.args.files.now) (g.F.Files.faults c.args.files.now) input c.args.steps.now (g.O.Sink.written c.args.out.now) (g.O.Sink.faults c.args.out.now))
    (seen (g.F.Files.holds c.loop-rest.files) (g.F.Files.faults c.loop-rest.files) input c.loop-rest.steps (g.O.Sink.written c.loop-rest.out) (g.O.Sink.faults c.loop-rest.out)) c.cut_line-cut.ensures.lines
    (c.loop-rest.invariant.so_far input) (BreaksFor c.loop-rest.session.language)
    (seen (g.F.Files.holds c.play_some.new.files) (g.F.Files.faults c.play_some.new.files) input c.play_some.new.steps (g.O.Sink.written c.play_some.new.out) (g.O.Sink.faults c.play_some.new.out))
    c.in-Err.status c.loop-rest.invariant.never_falls
    (c.in-Err.ensures.err input (kept_lines (c.cut_line-cut.result.line.now ∷ [])) c.kept.ensures))

pub loop-rest-preserved : goal.loop-rest-preserved
loop-rest-preserved g c = record {
  so_far = λ input. subst (λ (d : Definition). TurnsSoFar Windowed (IsPlayedFor d) (script_lines c.args.script.now)
      c.cut_line-cut.result.rest.now new_windows (windowed (state_of c.play_some.new.session.editor) c.in-Ok-play_some.next)
      (seen (g.F.Files.holds c.args.files.now) (g.F.Files.faults c.args.files.now) input c.args.steps.now (g.O.Sink.written c.args.out.now) (g.O.Sink.faults c.args.out.now))
      (seen (g.F.Files.holds c.play_some.new.files) (g.F.Files.faults c.play_some.new.files) input c.play_some.new.steps (g.O.Sink.written c.play_some.new.out) (g.O.Sink.faults c.play_some.new.out)))
      (sym c.in-Ok-play_some.ensures.language)
      (turn_played Windowed (IsPlayedFor c.loop-rest.session.language) (script_lines c.args.script.now) c.loop-rest.rest.now
      c.cut_line-cut.result.rest.now c.cut_line-cut.result.line.now new_windows (windowed (state_of c.loop-rest.session.editor) c.loop-rest.cursors)
      (seen (g.F.Files.holds c.args.files.now) (g.F.Files.faults c.args.files.now) input c.args.steps.now (g.O.Sink.written c.args.out.now) (g.O.Sink.faults c.args.out.now))
      (seen (g.F.Files.holds c.loop-rest.files) (g.F.Files.faults c.loop-rest.files) input c.loop-rest.steps (g.O.Sink.written c.loop-rest.out) (g.O.Sink.faults c.loop-rest.out)) c.cut_line-cut.ensures.lines
      (c.loop-rest.invariant.so_far input) (windowed (state_of c.play_some.new.session.editor) c.in-Ok-play_some.next)
      (seen (g.F.Files.holds c.play_some.new.files) (g.F.Files.faults c.play_some.new.files) input c.play_some.new.steps (g.O.Sink.written c.play_some.new.out) (g.O.Sink.faults c.play_some.new.out))
      (c.in-Ok-play_some.ensures.ok input (kept_lines (c.cut_line-cut.result.line.now ∷ [])) c.kept.ensures));
  language = c.in-Ok-play_some.ensures.language ∙ c.loop-rest.invariant.language;
  never_falls = le_trans c.loop-rest.invariant.never_falls c.in-Ok-play_some.ensures.never_falls;
}

pub returns : goal.returns
returns g c = λ input.
    subst (λ (d : Definition). PlaysWindows d (script_lines c.args.script.now)
    (seen (g.F.Files.holds c.args.files.now) (g.F.Files.faults c.args.files.now) input c.args.steps.now (g.O.Sink.written c.args.out.now) (g.O.Sink.faults c.args.out.now))
    (seen (g.F.Files.holds c.loop-rest.files) (g.F.Files.faults c.loop-rest.files) input c.loop-rest.steps (g.O.Sink.written c.loop-rest.out) (g.O.Sink.faults c.loop-rest.out)) _) c.loop-rest.invariant.language
    (turns_finished Windowed (IsPlayedFor c.loop-rest.session.language) (script_lines c.args.script.now) c.loop-rest.rest.now
    new_windows (windowed (state_of c.loop-rest.session.editor) c.loop-rest.cursors)
    (seen (g.F.Files.holds c.args.files.now) (g.F.Files.faults c.args.files.now) input c.args.steps.now (g.O.Sink.written c.args.out.now) (g.O.Sink.faults c.args.out.now))
    (seen (g.F.Files.holds c.loop-rest.files) (g.F.Files.faults c.loop-rest.files) input c.loop-rest.steps (g.O.Sink.written c.loop-rest.out) (g.O.Sink.faults c.loop-rest.out)) (BreaksFor c.loop-rest.session.language)
    (empty_is c.loop-rest.rest.now (sym c.loop-rest-test.ensures)) (c.loop-rest.invariant.so_far input))
