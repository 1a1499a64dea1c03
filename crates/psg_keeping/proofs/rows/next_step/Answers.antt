use Rattle.std.proofs.Common.{true≢false, sym, ◌∙◌, arith}
use Rattle.psg_keeping.proofs.RowLaws.{next_both, next_new, next_old}
use Rattle.psg_keeping.proofs.rows.next_step.Goals as goal

pub returns-then-is_same : goal.returns-then-is_same
returns-then-is_same c = λ xs ys o n.
    next_both c.args.token.now c.args.other.now xs ys (c.is_same.ensures.0 c.if-is_same.true)

pub returns-then-old-new : goal.returns-then-old-new
returns-then-old-new c = λ xs ys o n.
    next_old c.args.token.now c.args.other.now xs ys c.args.old c.args.new
    (λ e. true≢false (sym (c.is_same.ensures.1 e) ∙ c.if-is_same.false)) o n (omega (arith, c.if-old-new.true))

pub returns : goal.returns
returns c = λ xs ys o n.
    next_new c.args.token.now c.args.other.now xs ys c.args.old c.args.new
    (λ e. true≢false (sym (c.is_same.ensures.1 e) ∙ c.if-is_same.false)) o n (omega (arith, c.if-old-new.false))
