use Rattle.psg_layout.specs.Walking.{new_walk}
use Rattle.psg_layout.proofs.walk.write_whole.Goals as goal

pub returns : goal.returns
returns c = λ k r. c.in_ok-write_node.ensures.walk k r new_walk c.in_ok-arranger.ensures
