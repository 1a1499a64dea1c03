use Rattle.std.proofs.Common.{◌≡◌, ◌≤◌, length}
use Rattle.psg_session.specs.Sessions.{state_of}
use Rattle.psg_run.specs.Scripts.{script_lines}
use Rattle.psg_run.specs.Worlds.{Incoming, seen}
use Rattle.psg_run.specs.Windowed.{IsPlayedFor, Windowed, new_windows, windowed}
use Rattle.psg_run.proofs.Turning.{TurnsSoFar}
use Rattle.psg_run.proofs.windows.play_windows.Given as goal

abbrev pub invariant-loop-rest : goal.invariant-loop-rest
invariant-loop-rest g l = record {
  so_far : (input : Incoming) → TurnsSoFar Windowed (IsPlayedFor l.session.language) (script_lines l.script) l.rest
      new_windows (windowed (state_of l.session.editor) l.cursors)
      (seen (g.F.Files.holds l.initial.files) (g.F.Files.faults l.initial.files) input l.initial.steps (g.O.Sink.written l.initial.out) (g.O.Sink.faults l.initial.out))
      (seen (g.F.Files.holds l.files) (g.F.Files.faults l.files) input l.steps (g.O.Sink.written l.out) (g.O.Sink.faults l.out));
  language : l.session.language ≡ l.initial.session.language;
  never_falls : g.O.Sink.faults l.initial.out ≤ g.O.Sink.faults l.out;
}

abbrev pub decreases-loop-rest : goal.decreases-loop-rest
decreases-loop-rest g l = length l.rest
