use Rattle.std.proofs.Common.{◌≡◌}
use Rattle.psg_links.specs.Around.{regions_upto}
use Rattle.psg_links.proofs.around.enter.Given as goal

abbrev pub invariant-loop-steps : goal.invariant-loop-steps
invariant-loop-steps l = l.regions.items ≡ regions_upto l.definition l.tree l.path l.steps
