use Rattle.psg_textedit.proofs.Depths.{depth_of_change}
use Rattle.psg_textedit.proofs.region_laws.depth_of_change.Goals as goal

pub returns : goal.returns
returns c = depth_of_change c.args._definition.now
