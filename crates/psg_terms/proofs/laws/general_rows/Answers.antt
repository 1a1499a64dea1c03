use Rattle.psg_terms.proofs.RelationLaws.{general_by_rows}
use Rattle.psg_terms.proofs.laws.general_rows.Goals as goal

pub returns : goal.returns
returns g c = λ sorts. general_by_rows c.args.sig.now c.sound.ensures sorts g.F.Family.possible
