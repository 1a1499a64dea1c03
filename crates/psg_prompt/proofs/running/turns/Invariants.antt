use Rattle.psg_keys.specs.Reading.{at_first}
use Rattle.psg_prompt.specs.Running.{scene}
use Rattle.psg_prompt.proofs.RunningLaws.{SoFar}
use Rattle.psg_prompt.proofs.running.turns.Given as goal

abbrev pub invariant-turns : goal.invariant-turns
invariant-turns g l =
    SoFar (scene l.initial.prompt at_first (g.P.Pieces.left l.initial.input)) (g.O.Sink.written l.initial.out)
    (g.O.Sink.written l.out) l.turn (scene l.prompt l.reader (g.P.Pieces.left l.input))
