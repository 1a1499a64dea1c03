use Rattle.std.proofs.Common.{true≢false, sym, ◌∙◌, arith}
use Rattle.psg_keeping.proofs.CellLaws.{best_same}
use Rattle.psg_keeping.proofs.PairLaws.{best_new, best_old}
use Rattle.psg_keeping.proofs.rows.cell.Goals as goal

pub returns-then-is_same : goal.returns-then-is_same
returns-then-is_same c = λ xs ys b o n.
    best_same c.args.token.now c.args.other.now xs ys c.args.both (c.is_same.ensures.0 c.if-is_same.true) b

pub returns-then-old-new : goal.returns-then-old-new
returns-then-old-new c = λ xs ys b o n.
    best_old c.args.token.now c.args.other.now xs ys c.args.old c.args.new
    (λ e. true≢false (sym (c.is_same.ensures.1 e) ∙ c.if-is_same.false)) o n (omega (arith, c.if-old-new.true))

pub returns : goal.returns
returns c = λ xs ys b o n.
    best_new c.args.token.now c.args.other.now xs ys c.args.old c.args.new
    (λ e. true≢false (sym (c.is_same.ensures.1 e) ∙ c.if-is_same.false)) o n (omega (arith, c.if-old-new.false))
