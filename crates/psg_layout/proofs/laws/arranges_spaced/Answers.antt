use Rattle.psg_layout.proofs.GrowLaws.{arranged_is_spaced}
use Rattle.psg_layout.proofs.laws.arranges_spaced.Goals as goal

pub returns : goal.returns
returns c = λ cols f. arranged_is_spaced c.args._definition.now c.args._layout.now cols f
