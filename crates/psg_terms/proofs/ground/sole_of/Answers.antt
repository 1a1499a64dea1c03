use Rattle.std.proofs.Common.{sym}
use Rattle.psg_terms.proofs.Soundness.{sole-many}
use Rattle.psg_terms.proofs.ground.sole_of.Goals as goal

pub returns-in_default-2 : goal.returns-in_default-2
returns-in_default-2 c = sym (sole-many c.args.ids.now c.in_default.len_at_least)
