use Rattle.psg_specimen.proofs.FirstOnes.{one_refusal}
use Rattle.psg_specimen.proofs.laws.one_refusal.Goals as goal

pub returns : goal.returns
returns c = one_refusal c.args.definition.now
