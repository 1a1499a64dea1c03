use Rattle.psg_uses.proofs.FreeKeys as free_keys
use Rattle.psg_uses.proofs.laws.warns_of_free.Goals as goal

pub returns : goal.returns
returns c = free_keys.warns_of_free c.args.definition.now
