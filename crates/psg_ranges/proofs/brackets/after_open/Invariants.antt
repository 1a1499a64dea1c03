use Rattle.std.proofs.Common.{◌≡◌, ◌+◌, ◌-◌, drop, length}
use Rattle.psg_class.specs.Texts.{tokens_of}
use Rattle.psg_ranges.specs.Brackets.{opening}
use Rattle.psg_ranges.proofs.brackets.after_open.Given as goal

abbrev pub invariant-brackets : goal.invariant-brackets
invariant-brackets l = l.next + opening (drop l.next (tokens_of l.tokens)) ≡ l.at + opening (drop l.at (tokens_of l.tokens))

abbrev pub decreases-brackets : goal.decreases-brackets
decreases-brackets l = length l.tokens - l.next
