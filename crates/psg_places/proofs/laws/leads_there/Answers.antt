use Rattle.psg_places.proofs.WalkLaws.{leads_there}
use Rattle.psg_places.proofs.laws.leads_there.Goals as goal

pub returns : goal.returns
returns c kept fresh f formed = leads_there c.args.definition.now kept fresh f formed
