use Rattle.std.proofs.Common.{◌≡◌}
use Rattle.psg_uses.specs.Linked.{regions_upto}
use Rattle.psg_uses.proofs.free.enter.Given as goal

abbrev pub invariant-loop-steps : goal.invariant-loop-steps
invariant-loop-steps l = l.regions.items ≡ regions_upto l.linking.known.definition.now l.linking.tree.now l.path l.steps
