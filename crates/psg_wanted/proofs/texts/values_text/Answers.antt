use Rattle.psg_wanted.proofs.TextLaws.{front_sorted}
use Rattle.psg_wanted.proofs.texts.values_text.Goals as goal

pub joined_values-requires-2 : goal.joined_values-requires-2
joined_values-requires-2 c = front_sorted c.args.sig.now 6 c.args.terms.now c.requires
