use Rattle.std.proofs.Common.{◌≡◌, drop}
use Rattle.psg_grammar.specs.Paths.{node_at}
use Rattle.psg_tree.proofs.places.at.Given as goal

abbrev pub invariant-loop-step : goal.invariant-loop-step
invariant-loop-step l = node_at l.tree l.path ≡ node_at l.node (drop l.step-index l.step-items)
