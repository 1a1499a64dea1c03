use Rattle.psg_terms.proofs.Lists.{slice_get_item}
use Rattle.psg_covering.proofs.numbers.row_of.Goals as goal

pub returns : goal.returns
returns c = slice_get_item c.args.rows.now c.args.number c.index-rows-number.result c.requires c.index-rows-number.is
