use Rattle.std.proofs.Common.{◌≡◌, ◌+◌, drop}
use Rattle.psg_recover.specs.Lost.{element_back}
use Rattle.psg_recover.proofs.lost.element_back.Given as goal

abbrev pub invariant-loop-place : goal.invariant-loop-place
invariant-loop-place l =
    l.place + element_back l.known.definition.now l.left (drop l.place l.elements)
    ≡ element_back l.known.definition.now l.number l.elements
