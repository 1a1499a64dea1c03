use Rattle.std.proofs.lemmas.Option.{slice_get-get_or}
use Rattle.psg_covering.proofs.searching.slot_at.Goals as goal

pub returns : goal.returns
returns c = slice_get-get_or c.args.slots.now c.args.number _ c.requires
