use Rattle.std.proofs.Common.{◌≡◌, length}
use Rattle.psg_defcomment.specs.Naming.{past_spaces}
use Rattle.psg_defcomment.proofs.quotes.past_spaces.Given as goal

abbrev pub invariant-loop-first : goal.invariant-loop-first
invariant-loop-first l = past_spaces l.rest ≡ past_spaces l.text

abbrev pub decreases-loop-first : goal.decreases-loop-first
decreases-loop-first l = length l.rest
