use Rattle.psg_relation.proofs.Solving.{join_exists}
use Rattle.psg_relation.proofs.laws.some_join.Goals as goal

pub returns : goal.returns
returns c = λ left right pairs keep may ls rs hl hr. join_exists c.args.sig.now c.sound.ensures pairs keep left right may ls rs hl hr
