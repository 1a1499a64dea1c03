use Rattle.std.proofs.Common.{ap, ◌∙◌, ◌+◌, ◌-◌, drop, arith, length}
use Rattle.psg_terms.proofs.Lists.{drop_item}
use Rattle.psg_grammar.specs.Lookups.{operator_at}
use Rattle.psg_unparse.specs.Rows.{from_part, behind_first}
use Rattle.psg_unparse.proofs.Items.{short-behind, short-from}
use Rattle.psg_textedit.specs.Places.{wanted_among}
use Rattle.psg_textedit.proofs.Ways.{wanted_later}
use Rattle.psg_textedit.proofs.places.wanted_among.Goals as goal

pub loop-part-init : goal.loop-part-init
loop-part-init c = (
  ap (λ r. wanted_among (operator_at c.args.definition.now c.args.op) r c.args.parts.now c.args.number)
      (c.from_part-rest.ensures ∙ ap from_part c.items_of-items.ensures),
  omega (arith, ap length c.from_part-rest.ensures, short-from c.items_of-items.result.now),
)

pub overflow_sub-items : goal.overflow_sub-items
overflow_sub-items c = c.loop-part.invariant.1

pub loop-part-preserved : goal.loop-part-preserved
loop-part-preserved c =
    let after = c.from_part-rest-in-loop-part.ensures ∙ ap from_part c.behind_first.ensures in (
      wanted_later c.args.definition.now c.args.op c.items_of-items.result.now c.loop-part.rest.now c.args.parts.now
          (drop (c.loop-part.part-index + 1) c.args.parts.now) c.part-item.result c.loop-part.part-index c.loop-part.left
          c.args.number c.items_of-items.ensures
          (drop_item c.args.parts.now c.loop-part.part-index c.part-item.result c.loop-part-test.true c.part-item.is)
          c.loop-part.invariant.0 c.from_part-rest-in-loop-part.result.now (c.loop-part.left - c.subtrees_in-own.result)
          (omega (arith, c.subtrees_in-own.ensures, c.if-left-own.false))
          (ap (λ n. c.loop-part.left - n) c.subtrees_in-own.ensures) after,
      omega (
        arith,
        ap length after,
        short-from (behind_first c.loop-part.rest.now),
        short-behind c.loop-part.rest.now,
        c.loop-part.invariant.1,
      ),
    )
