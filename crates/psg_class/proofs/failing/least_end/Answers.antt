use Rattle.std.proofs.Common.{◌+◌, Some, subst, ap, sym, ◌∙◌}
use Rattle.psg_class.specs.Failing.{IsLeastIf, ends}
use Rattle.psg_class.proofs.FailingLaws.{least_more, least_same}
use Rattle.psg_class.proofs.failing.least_end.Goals as goal
use Rattle.psg_class.proofs.failing.least_end.Goals.{then-is_end, else-is_end}

pub loop-column-preserved : goal.loop-column-preserved
loop-column-preserved c =
    let v = c.args.vocabulary.now in
    let set = ends c.args.rows.now c.args.sets.now c.args.separators.now c.args.list in
    elim c.if-is_end.branch [
      | then-is_end w ↦ subst (IsLeastIf v.base v.words.items set (c.loop-column.column + 1)) (sym (w.best-is ∙ ap Some w.first_of.ensures))
          (least_more v.base v.words.items set c.loop-column.column c.loop-column.best c.loop-column.invariant (sym c.is_end.ensures ∙ w.if-is_end.true))
      | else-is_end w ↦ subst (IsLeastIf v.base v.words.items set (c.loop-column.column + 1)) (sym w.best-is)
          (least_same v.base v.words.items set c.loop-column.column c.loop-column.best c.loop-column.invariant (sym c.is_end.ensures ∙ w.if-is_end.false))
    ]
