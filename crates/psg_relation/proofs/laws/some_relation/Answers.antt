use Rattle.psg_relation.proofs.Existing.{relation_exists}
use Rattle.psg_relation.proofs.laws.some_relation.Goals as goal

pub returns : goal.returns
returns c = relation_exists c.args.sig.now c.sound.ensures
