use Rattle.psg_pointing.proofs.Walks.{on_first}
use Rattle.psg_pointing.proofs.pointing.is_on.Goals as goal

pub returns : goal.returns
returns c = on_first c.args.tokens.now c.args.byte c.args.ranges.now _ c.first_covers.ensures
