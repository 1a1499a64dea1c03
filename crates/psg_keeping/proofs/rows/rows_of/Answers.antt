use Rattle.std.proofs.Common.{◌+◌, get_or, sym, ap, ◌∙◌, subst}
use Rattle.psg_keeping.specs.Rows.{AreRows}
use Rattle.psg_keeping.proofs.CellLaws.{rows_next}
use Rattle.psg_keeping.proofs.rows.rows_of.Goals as goal

pub loop-count-preserved : goal.loop-count-preserved
loop-count-preserved c =
    let n = c.loop-count.count in
    let rows = c.loop-count.rows.items in
    subst (λ l. AreRows c.args.old.now c.args.new.now (n + 1) l) (sym c.in_ok-push-2.ensures.items)
    (rows_next c.args.old.now c.args.new.now rows n c.as_slice-below.result.now c.index-done-count.result c.in_ok-row.row
    c.index-old-old.result c.loop-count.invariant c.as_slice-below.ensures
    (c.index-done-count.is ∙ ap (λ l. get_or l n c.index-done-count.result) c.as_slice-done.ensures.value)
    c.loop-count-test.true c.index-old-old.is c.in_ok-row.ensures)
