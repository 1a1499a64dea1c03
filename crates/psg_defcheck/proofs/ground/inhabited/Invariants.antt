use Rattle.std.proofs.Common.{◌+◌, cond}
use Rattle.psg_deflines.specs.Entries.{written}
use Rattle.psg_defcheck.specs.Scopes.{sort_names}
use Rattle.psg_defcheck.specs.Grounds.{waiting}
use Rattle.psg_defcheck.proofs.GroundLaws.{IsMarking}
use Rattle.psg_defcheck.proofs.ground.inhabited.Given as goal

abbrev pub invariant-loop-more : goal.invariant-loop-more
invariant-loop-more l = IsMarking l.scope l.marks l.more

abbrev pub decreases-loop-more : goal.decreases-loop-more
decreases-loop-more l = waiting l.marks (sort_names (written l.entries)) + cond l.more 1 0
