use Rattle.std.proofs.Common.{take}
use Rattle.psg_textedit.specs.Surroundings.{Surrounds}
use Rattle.psg_textedit.proofs.places.place_of.Given as goal

abbrev pub invariant-loop-step : goal.invariant-loop-step
invariant-loop-step l =
    Surrounds l.definition l.tree 0 0 (take l.step-index l.path) l.place.node.now l.place.least l.place.around
