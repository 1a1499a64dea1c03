use Rattle.std.proofs.Common.{◌==◌, List, ℕ, length, true≢false, sym, ap, ◌∙◌}
use Rattle.psg_session.proofs.Options.{empty_is}
use Rattle.psg_run.proofs.Chains.{kept_none, kept_one}
use Rattle.psg_run.proofs.lines.kept.Goals as goal

pub returns-then-is_empty : goal.returns-then-is_empty
returns-then-is_empty c =
    kept_none c.args.piece.now (sym c.without_return-line.ensures ∙ empty_is c.without_return-line.result.now (sym c.if-is_empty.ensures))

pub returns-else-is_empty : goal.returns-else-is_empty
returns-else-is_empty c =
    kept_one c.args.piece.now c.without_return-line.result.now c.without_return-line.ensures
    (λ e. true≢false (sym (ap (λ (l : List ℕ). length l == 0) (c.without_return-line.ensures ∙ e)) ∙ sym c.if-is_empty.ensures))
