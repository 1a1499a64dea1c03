use Rattle.std.proofs.Common.{◌≡◌, drop}
use Rattle.psg_grammar.specs.Paths.{node_at}
use Rattle.psg_face.proofs.moves.node_along.Given as goal

abbrev pub invariant-loop-step : goal.invariant-loop-step
invariant-loop-step l = node_at l.tree l.steps ≡ node_at l.node (drop l.step-index l.steps)
