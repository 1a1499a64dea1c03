use Rattle.std.proofs.Common.{sym, ◌∙◌, true≢false}
use Rattle.psg_run.proofs.explaining.checked_text.Goals as goal

pub unreachable-requires : goal.unreachable-requires
unreachable-requires c = true≢false (sym (c.in_ok-right.ensures.right.1 c.requires.right) ∙ c.if-not-right.true)
