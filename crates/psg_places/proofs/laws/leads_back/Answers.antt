use Rattle.psg_places.proofs.BackLaws.{leads_back}
use Rattle.psg_places.proofs.laws.leads_back.Goals as goal

pub returns : goal.returns
returns c kept fresh f formed = leads_back c.args.definition.now kept fresh f formed
