use Rattle.psg_terms.proofs.InstanceLaws.{instance_trans}
use Rattle.psg_terms.proofs.laws.instances.Goals as goal

pub returns : goal.returns
returns c = instance_trans
