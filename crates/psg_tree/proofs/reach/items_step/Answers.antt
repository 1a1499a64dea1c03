use Rattle.psg_tree.specs.Reaching.{chain_phyla}
use Rattle.psg_tree.proofs.Reaches.{step_of_item}
use Rattle.psg_tree.proofs.reach.items_step.Goals as goal

pub returns-in_default : goal.returns-in_default
returns-in_default c =
    step_of_item c.args.definition.now (chain_phyla c.args.found.now) c.args.items.now c.loop-item.item-index c.item-item.result c.item_step.result
    c.loop-item-test.true c.item-item.is c.in_default.not-Closed c.item_step.ensures
