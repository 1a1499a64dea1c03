use Rattle.std.proofs.Common.{length}
use Rattle.psg_deflines.specs.Parts.{HasParts, texts}
use Rattle.psg_deflines.proofs.Stages.{IsReadTo}
use Rattle.psg_deflines.proofs.parts.parts.Given as goal

abbrev pub invariant-loop-left : goal.invariant-loop-left
invariant-loop-left l = IsReadTo HasParts l.line (texts l.parts.items) l.left

abbrev pub decreases-loop-left : goal.decreases-loop-left
decreases-loop-left l = length l.left
