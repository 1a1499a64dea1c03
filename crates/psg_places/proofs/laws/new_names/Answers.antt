use Rattle.psg_places.proofs.NewNameLaws.{all_new}
use Rattle.psg_places.proofs.laws.new_names.Goals as goal

pub returns : goal.returns
returns c = λ f front free small. all_new c.args.definition.now f front free small
