use Rattle.std.proofs.Common.{◌++◌, ◌∷◌, [], ap, sym, ◌∙◌}
use Rattle.psg_class.proofs.ShapeLaws.{parts_more, listed_some, listed_none}
use Rattle.psg_class.proofs.shape.read_parts.Goals as goal
use Rattle.psg_class.proofs.shape.read_parts.Goals.{in-Some+in_ok-push, in_default}

pub loop-item-preserved : goal.loop-item-preserved
loop-item-preserved c =
    let v = c.args.vocabulary.now in
    let more = parts_more v.base v.words.items c.args.items.now c.loop-item.item-index c.item-item.result c.read_part.result c.loop-item-test.true c.item-item.is c.read_part.ensures in
    elim c.match-read_part.branch [
      | in-Some+in_ok-push w ↦ ap (λ m. m.items) w.made-is ∙ w.in_ok-push.ensures.items ∙ ap (λ ps. ps ++ w.in-Some.part ∷ []) c.loop-item.invariant
          ∙ sym (more ∙ listed_some _ c.read_part.result w.in-Some.part w.in-Some.is)
      | in_default w ↦ ap (λ m. m.items) w.made-is ∙ c.loop-item.invariant ∙ sym (more ∙ listed_none _ c.read_part.result w.in_default.is)
    ]
