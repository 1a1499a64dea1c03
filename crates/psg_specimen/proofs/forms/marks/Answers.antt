use Rattle.psg_specimen.specs.Tables.{has_mark}
use Rattle.psg_specimen.proofs.MarkLaws.{marks_next}
use Rattle.psg_specimen.proofs.forms.marks.Goals as goal

pub loop-row-preserved : goal.loop-row-preserved
loop-row-preserved c =
    marks_next (has_mark c.loop-row.marks) (has_mark c.insert.new.self) c.args.rows.now c.loop-row.row-index c.row-item.result c.mark_of-mark.result c.loop-row-test.true c.row-item.is c.mark_of-mark.ensures
    c.in_ok-insert.ensures.updates.0 c.loop-row.invariant
