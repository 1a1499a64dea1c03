use Rattle.std.proofs.Common.{◌+◌, [], ◌∷◌, ◌++◌, sym, ap, ◌∙◌, subst}
use Rattle.psg_keeping.specs.Rows.{end_of}
use Rattle.psg_keeping.proofs.PairLaws.{best_left}
use Rattle.psg_keeping.proofs.RowLaws.{IsFrontRow, row_none, row_push}
use Rattle.psg_keeping.proofs.rows.first_row.Goals as goal

pub loop-count-init : goal.loop-count-init
loop-count-init c =
    subst (λ l. IsFrontRow [] c.args.new.now l 0)
    (sym (c.in_ok-push.ensures.items ∙ ap (λ l. l ++ 0 ∷ []) c.new-row.ensures.items)) (row_none [] c.args.new.now)

pub loop-count-preserved : goal.loop-count-preserved
loop-count-preserved c =
    let n = c.loop-count._count in
    subst (λ l. IsFrontRow [] c.args.new.now l (n + 1)) (sym c.in_ok-push-2.ensures.items)
    (row_push [] c.args.new.now c.loop-count.row.items n 0 c.loop-count.invariant (best_left (end_of (n + 1) c.args.new.now)))
