use Rattle.std.proofs.Common.{refl, sym, ◌∙◌}
use Rattle.std.proofs.lemmas.Bool.{false≢true}
use Rattle.psg_deflines.specs.Forms.{IsFixedItem}
use Rattle.psg_deflines.proofs.Lists.{all-next, all-take, all-at}
use Rattle.psg_deflines.proofs.entries.are_fixed_items.Goals as goal

pub loop-item-preserved : goal.loop-item-preserved
loop-item-preserved c = all-next IsFixedItem c.args.items.now c.loop-item.item-index c.item-item.result c.loop-item-test.true c.item-item.is c.loop-item.invariant (c.in_ok-is_fixed_item.ensures.0 c.if-not-branch.false)

pub returns-then-not-branch : goal.returns-then-not-branch
returns-then-not-branch c =
    (λ e. absurd (false≢true e), λ a. absurd (false≢true (sym c.if-not-branch.true ∙ c.in_ok-is_fixed_item.ensures.1 (all-at IsFixedItem c.args.items.now c.loop-item.item-index c.item-item.result c.loop-item-test.true c.item-item.is a))))

pub returns : goal.returns
returns c = (λ e. all-take IsFixedItem c.args.items.now c.loop-item.item-index c.loop-item-test.false c.loop-item.invariant, λ a. refl)
