use Rattle.std.proofs.Common.{[]}
use Rattle.std.proofs.lemmas.Bool.{false≢true}
use Rattle.psg_deflines.proofs.ItemLaws.{no-level}
use Rattle.psg_deflines.proofs.items.level_and_equals.Goals as goal

pub returns-in_default-2 : goal.returns-in_default-2
returns-in_default-2 c =
    no-level c.args.parts.now (record { ref_ptr = (0, 0); now = [] }) c.in-len1-up.len_at_least c.in_default.len_below (λ e. false≢true (c.if-is.ensures.1 e))
