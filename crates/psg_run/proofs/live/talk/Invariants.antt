use Rattle.std.proofs.Common.{◌≡◌, ◌≤◌}
use Rattle.psg_session.specs.Sessions.{state_of}
use Rattle.psg_run.specs.Framed.{written_by}
use Rattle.psg_run.specs.Worlds.{coming, seen}
use Rattle.psg_run.proofs.Listening.{LiveSoFar}
use Rattle.psg_run.proofs.live.talk.Given as goal

abbrev pub invariant-loop : goal.invariant-loop
invariant-loop g l = record {
  so_far : LiveSoFar (written_by l.framing) l.session.language (state_of l.session.editor)
      (seen (g.F.Files.holds l.initial.files) (g.F.Files.faults l.initial.files)
      (coming (g.I.Input.lines l.initial.input) (g.I.Input.given l.initial.input) (g.I.Input.missed l.initial.input)) l.initial.steps (g.O.Sink.written l.initial.out) (g.O.Sink.faults l.initial.out))
      (seen (g.F.Files.holds l.files) (g.F.Files.faults l.files)
      (coming (g.I.Input.lines l.input) (g.I.Input.given l.input) (g.I.Input.missed l.input)) l.steps (g.O.Sink.written l.out) (g.O.Sink.faults l.out));
  language : l.session.language ≡ l.initial.session.language;
  never_falls : g.O.Sink.faults l.initial.out ≤ g.O.Sink.faults l.out;
}
