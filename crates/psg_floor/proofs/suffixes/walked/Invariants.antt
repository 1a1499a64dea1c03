use Rattle.std.proofs.Common.{length}
use Rattle.psg_floor.proofs.SuffixLaws.{IsWalked}
use Rattle.psg_floor.proofs.suffixes.walked.Given as goal

abbrev pub invariant-loop-element : goal.invariant-loop-element
invariant-loop-element l = IsWalked l.elements l.left l.whole l.rests.items

abbrev pub decreases-loop-element : goal.decreases-loop-element
decreases-loop-element l = length l.left
