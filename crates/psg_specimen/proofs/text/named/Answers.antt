use Rattle.std.proofs.Common.{[], ◌∷◌}
use Rattle.psg_specimen.proofs.text.named.Goals as goal

pub returns : goal.returns
returns c = c.in_ok-add-2.ensures (c.args.condition.now ∷ []) (c.in_ok-add.ensures [] c.in_ok-text.ensures.ok)
