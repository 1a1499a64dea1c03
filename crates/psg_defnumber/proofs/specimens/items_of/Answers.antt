use Rattle.std.proofs.Common.{ap, refl, ◌∙◌, Vec, Global}
use Rattle.std.specs.Borrow.{Bor}
use Rattle.psg_grammar.specs.declared.types.Item.{Item}
use Rattle.psg_defnumber.proofs.FitLaws.{items-taken, items-passed}
use Rattle.psg_defnumber.proofs.specimens.items_of.Goals as goal
use Rattle.psg_defnumber.proofs.specimens.items_of.Goals.{then-is_part+in_ok-push, else-is_part}

pub loop-item-preserved : goal.loop-item-preserved
loop-item-preserved c = elim c.if-is_part.branch [
  | then-is_part+in_ok-push w ↦ items-taken c.args.items.now c.loop-item.item-index c.item-item.result _ c.loop-item.parts.items c.if-is_part.parts.items c.is_part.result c.loop-item-test.true c.item-item.is c.loop-item.invariant
      (ap (λ (v : Vec (Bor Item) Global). v.items) w.parts-is ∙ w.in_ok-push.ensures.items) refl c.is_part.ensures w.if-is_part.true
  | else-is_part w ↦ items-passed c.args.items.now c.loop-item.item-index c.item-item.result c.loop-item.parts.items c.if-is_part.parts.items c.is_part.result c.loop-item-test.true c.item-item.is c.loop-item.invariant
      (ap (λ (v : Vec (Bor Item) Global). v.items) w.parts-is) c.is_part.ensures w.if-is_part.false
]
