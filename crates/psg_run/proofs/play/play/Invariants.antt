use Rattle.std.proofs.Common.{◌≡◌, ◌≤◌, length}
use Rattle.psg_session.specs.Sessions.{state_of}
use Rattle.psg_run.specs.Scripts.{script_lines}
use Rattle.psg_run.specs.Worlds.{Incoming, seen}
use Rattle.psg_run.proofs.Replied.{SoFar}
use Rattle.psg_run.proofs.play.play.Given as goal

abbrev pub invariant-loop-rest : goal.invariant-loop-rest
invariant-loop-rest g l = record {
  so_far : (input : Incoming) → SoFar l.session.language (script_lines l.script) l.rest (state_of l.session.editor)
      (seen (g.F.Files.holds l.initial.files) (g.F.Files.faults l.initial.files) input l.initial.steps (g.O.Sink.written l.initial.out) (g.O.Sink.faults l.initial.out))
      (seen (g.F.Files.holds l.files) (g.F.Files.faults l.files) input l.steps (g.O.Sink.written l.out) (g.O.Sink.faults l.out));
  language : l.session.language ≡ l.initial.session.language;
  never_falls : g.O.Sink.faults l.initial.out ≤ g.O.Sink.faults l.out;
}

abbrev pub decreases-loop-rest : goal.decreases-loop-rest
decreases-loop-rest g l = length l.rest
