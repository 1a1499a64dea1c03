use Rattle.psg_terms.proofs.OneRelation.{same_rows}
use Rattle.psg_terms.proofs.RowOrder.{same_row_texts, one_list}
use Rattle.psg_terms.proofs.laws.one_relation.Goals as goal

pub returns : goal.returns
returns g c = record {
  rows = same_rows c.args.sig.now c.sound.ensures g.F.Family.possible;
  texts = same_row_texts c.args.sig.now c.sound.ensures g.F.Family.possible;
  list = one_list c.args.sig.now c.sound.ensures g.F.Family.possible;
}
