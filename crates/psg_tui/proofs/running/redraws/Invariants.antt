use Rattle.std.specs.Prelude.{◌≡◌, drop}
use Rattle.psg_tui.specs.Running.{redraws}
use Rattle.psg_tui.proofs.running.redraws.Given as goal

abbrev pub invariant-loop-number : goal.invariant-loop-number
invariant-loop-number l = redraws l.strokes ≡ redraws (drop l.number l.strokes)
