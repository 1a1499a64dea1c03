use Rattle.std.specs.Prelude.{None}
use Rattle.psg_keys.specs.Reading.{at_first}
use Rattle.psg_tui.specs.Editing.{IsOfSame}
use Rattle.psg_tui.specs.Running.{scene}
use Rattle.psg_tui.specs.Views.{outside}
use Rattle.psg_tui.proofs.RunningLaws.{SoFar}
use Rattle.psg_tui.proofs.running.turns.Given as goal

abbrev pub invariant-turns : goal.invariant-turns
invariant-turns g l =
    record {
      far : SoFar (scene l.initial.tui (outside (g.F.Files.holds l.initial.files) (g.F.Files.faults l.initial.files)) None at_first (g.P.Pieces.left l.initial.input))
          (g.O.Sink.written l.initial.out) (g.O.Sink.written l.out) l.turn
          (scene l.tui (outside (g.F.Files.holds l.files) (g.F.Files.faults l.files)) l.shown l.reader (g.P.Pieces.left l.input));
      same : IsOfSame l.initial.tui l.tui;
    }
