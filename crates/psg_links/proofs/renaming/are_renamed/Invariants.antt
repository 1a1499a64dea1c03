use Rattle.std.proofs.Common.{◌≡◌, length}
use Rattle.psg_links.specs.Renaming.{are_renamed}
use Rattle.psg_links.proofs.renaming.are_renamed.Given as goal

abbrev pub invariant-loop-first : goal.invariant-loop-first
invariant-loop-first l = are_renamed l.own l.new l.before l.after ≡ are_renamed l.own l.new l.rest l.others

abbrev pub decreases-loop-first : goal.decreases-loop-first
decreases-loop-first l = length l.rest
