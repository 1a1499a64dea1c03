use Rattle.psg_server.proofs.ApartLaws.{others_kept}
use Rattle.psg_server.proofs.laws.others_stay.Goals as goal

pub returns : goal.returns
returns c = λ kind. others_kept c.args.defined.now kind
