use Rattle.psg_keys.proofs.SizeLaws.{first_some, first_inside}
use Rattle.psg_keys.proofs.sizes.first_size.Goals as goal

pub returns-clause-some : goal.returns-clause-some
returns-clause-some c = first_some c.args.pasting c.args.bytes.now c.size_of_first.result c.size_of_first.ensures

pub returns-clause-inside : goal.returns-clause-inside
returns-clause-inside c = first_inside c.args.pasting c.args.bytes.now c.size_of_first.result c.size_of_first.ensures
