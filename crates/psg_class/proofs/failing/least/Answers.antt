use Rattle.std.proofs.Common.{◌+◌, Some, subst, ap, sym, ◌∙◌}
use Rattle.psg_class.specs.Grids.{is_set}
use Rattle.psg_class.specs.Failing.{IsLeastIf}
use Rattle.psg_class.proofs.FailingLaws.{least_more, least_same}
use Rattle.psg_class.proofs.failing.least.Goals as goal
use Rattle.psg_class.proofs.failing.least.Goals.{then-has, else-has}

pub loop-column-preserved : goal.loop-column-preserved
loop-column-preserved c =
    let v = c.args.vocabulary.now in
    let set = is_set c.args.grid.now c.args.row in
    elim c.if-has.branch [
      | then-has w ↦ subst (IsLeastIf v.base v.words.items set (c.loop-column.column + 1)) (sym (w.best-is ∙ ap Some w.first_of.ensures))
          (least_more v.base v.words.items set c.loop-column.column c.loop-column.best c.loop-column.invariant (sym c.has.ensures ∙ w.if-has.true))
      | else-has w ↦ subst (IsLeastIf v.base v.words.items set (c.loop-column.column + 1)) (sym w.best-is)
          (least_same v.base v.words.items set c.loop-column.column c.loop-column.best c.loop-column.invariant (sym c.has.ensures ∙ w.if-has.false))
    ]
