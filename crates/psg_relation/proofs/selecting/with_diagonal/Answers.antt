use Rattle.std.proofs.Common.{◌∷◌, ◌++◌, [], ◌∙◌, ap, sym}
use Rattle.psg_relation.proofs.Selected.{diagonal-next}
use Rattle.psg_relation.proofs.selecting.with_diagonal.Goals as goal

pub loop-column-preserved : goal.loop-column-preserved
loop-column-preserved c = c.in_ok-push.ensures.items ∙ ap (λ xs. xs ++ (c.loop-column.column, c.loop-column.column) ∷ []) c.loop-column.invariant ∙ sym (diagonal-next c.loop-column.column)
