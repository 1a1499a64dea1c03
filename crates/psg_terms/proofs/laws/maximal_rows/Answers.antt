use Rattle.psg_terms.proofs.RelationLaws.{row_is_maximal}
use Rattle.psg_terms.proofs.laws.maximal_rows.Goals as goal

pub returns : goal.returns
returns g c = λ sorts. row_is_maximal c.args.sig.now c.sound.ensures sorts g.F.Family.possible
