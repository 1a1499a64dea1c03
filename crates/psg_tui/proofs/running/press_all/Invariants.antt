use Rattle.std.specs.Prelude.{drop}
use Rattle.psg_session.specs.Exchanges.{Outside}
use Rattle.psg_tui.specs.declared.editing.Editing.{Editing}
use Rattle.psg_tui.specs.Editing.{IsOfSame}
use Rattle.psg_tui.specs.Running.{TakesAll}
use Rattle.psg_tui.specs.Views.{outside}
use Rattle.psg_tui.proofs.running.press_all.Given as goal

abbrev pub invariant-loop-number : goal.invariant-loop-number
invariant-loop-number g l =
    record {
      taken : (end : Editing) (after : Outside)
          → TakesAll (drop l.number l.strokes) l.tui (outside (g.F.Files.holds l.files) (g.F.Files.faults l.files)) end after
          → TakesAll l.strokes l.initial.tui (outside (g.F.Files.holds l.initial.files) (g.F.Files.faults l.initial.files)) end after;
      same : IsOfSame l.initial.tui l.tui;
    }
