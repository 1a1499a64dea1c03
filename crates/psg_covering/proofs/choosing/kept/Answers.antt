use Rattle.std.proofs.Common.{◌<◌, ap, sym, ◌∙◌, subst, arith}
use Rattle.std.specs.Prelude.{All, ◌∷◌, [], ◌++◌}
use Rattle.std.proofs.lemmas.List.Elements.{All-push}
use Rattle.psg_covering.proofs.Joined.{kept_next}
use Rattle.psg_covering.proofs.choosing.kept.Goals as goal

pub loop-column-preserved : goal.loop-column-preserved
loop-column-preserved c =
    let (le, items, within) = c.loop-column.invariant in (
      omega (arith, le),
      c.in_ok-push.ensures.items ∙ ap (λ l. l ++ c.loop-column.column ∷ []) items ∙ kept_next c.loop-column.column le,
      subst (All (λ k. k < c.args.width)) (sym c.in_ok-push.ensures.items) (All-push (λ k. k < c.args.width) c.loop-column.keep.items c.loop-column.column within c.loop-column-test.true),
    )
