use Rattle.psg_ranges.proofs.OwnLaws.{ranges_are}
use Rattle.psg_ranges.proofs.laws.ranges_are_of_nodes.Goals as goal

pub returns : goal.returns
returns c = ranges_are c.args._definition.now
