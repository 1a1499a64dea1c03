use Rattle.std.proofs.Common.{◌-◌}
use Rattle.psg_class.specs.Texts.{tokens_of}
use Rattle.psg_ranges.proofs.Rows.{Taking}
use Rattle.psg_ranges.proofs.brackets.in_brackets.Given as goal

abbrev pub invariant-brackets : goal.invariant-brackets
invariant-brackets l = Taking (tokens_of l.tokens) l.first l.fn.inner.start l.fn.inner.end l.outer.start l.outer.end

abbrev pub decreases-brackets : goal.decreases-brackets
decreases-brackets l = l.outer.start - l.first
