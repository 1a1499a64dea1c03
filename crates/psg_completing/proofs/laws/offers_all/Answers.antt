use Rattle.psg_completing.proofs.EachLaw.{all_offered}
use Rattle.psg_completing.proofs.laws.offers_all.Goals as goal

pub returns : goal.returns
returns c = λ kind tree spot least sample prefix ops entries more.
    all_offered c.args.definition.now kind tree spot least sample prefix ops entries more
