use Rattle.std.proofs.Common.{◌≡◌, ◌++◌, false, drop}
use Rattle.psg_modes.specs.Turning.{on_a_line}
use Rattle.psg_modes.proofs.node_text.on_a_line.Given as goal

abbrev pub invariant-loop-i : goal.invariant-loop-i
invariant-loop-i l = l.line.items ++ on_a_line l.fed (drop l.i l.all) ≡ on_a_line false l.all
