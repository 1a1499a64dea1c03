use Rattle.std.proofs.Common.{sym, ◌∙◌, true≢false}
use Rattle.psg_tui.proofs.picture.wrong_bytes.Goals as goal

pub returns-then-wrong : goal.returns-then-wrong
returns-then-wrong c = λ no. absurd (true≢false (sym c.if-wrong.true ∙ c.is_wrong-wrong.ensures ∙ no))
