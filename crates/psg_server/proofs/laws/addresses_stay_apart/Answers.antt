use Rattle.psg_server.proofs.ApartLaws.{apart_kept}
use Rattle.psg_server.proofs.laws.addresses_stay_apart.Goals as goal

pub returns : goal.returns
returns c = λ kind. apart_kept c.args.defined.now kind
