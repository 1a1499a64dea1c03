use Rattle.std.proofs.Common.{Some, sym, ◌∙◌}
use Rattle.psg_layout.proofs.DecideLaws.{ahead, decided_none, decided_some}
use Rattle.psg_layout.proofs.deciding.decide.Goals as goal

pub returns-then-is_flat : goal.returns-then-is_flat
returns-then-is_flat c = λ layout r k h.
    rw (← c.flat_at-plain.ensures)
    (decided_none layout c.args.plan.now.cols c.args.flat k c.flat_at-plain.result (Some c.args.op) c.if-flat.false
    (sym (c.is_flat.ensures layout r _ (ahead c.args.sheet.now k c.flat_at-plain.result c.in_ok-line.line c.in_ok-line.ensures h)) ∙ c.if-is_flat.true))

pub returns : goal.returns
returns c = λ layout r k h.
    rw (← c.flat_at-plain.ensures)
    (decided_some layout c.args.plan.now.cols c.args.flat k c.flat_at-plain.result (Some c.args.op) c.in_ok-spaces.spaces c.spaces.result c.if-flat.false
    (sym (c.is_flat.ensures layout r _ (ahead c.args.sheet.now k c.flat_at-plain.result c.in_ok-line.line c.in_ok-line.ensures h)) ∙ c.if-is_flat.false)
    (c.spaces.ensures _ (ahead c.args.sheet.now k c.flat_at-plain.result c.in_ok-line.line c.in_ok-line.ensures h)) c.in_ok-spaces.ensures)
