use Rattle.std.proofs.Common.{take}
use Rattle.psg_class.specs.Texts.{tokens_of}
use Rattle.psg_parse.specs.Onward.{IsEndable}
use Rattle.psg_parse.specs.Stops.{Begins}
use Rattle.psg_stop.specs.Wanted.{wanted_terminals}
use Rattle.psg_stop.proofs.Told.{AreTold}
use Rattle.psg_stop.proofs.stopping.wanted_after.Given as goal

abbrev pub invariant-loop-candidate : goal.invariant-loop-candidate
invariant-loop-candidate l =
    IsEndable l.definition → Begins l.definition l.goal.kind l.goal.least (tokens_of l.tokens)
    → AreTold l.definition l.goal.kind l.goal.least (tokens_of l.tokens) (wanted_terminals (take l.candidate-index l.candidate-items)) (wanted_terminals l.wanted.items)
