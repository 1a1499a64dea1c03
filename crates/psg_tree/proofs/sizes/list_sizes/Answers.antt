use Rattle.std.proofs.Common.{rules, ◌<◌, ◌^◌, length, refl}
use Rattle.psg_tree.proofs.Counts.{element_next, all_elements}
use Rattle.psg_tree.proofs.sizes.list_sizes.Goals as goal

pub loop-element-preserved : goal.loop-element-preserved
loop-element-preserved c =
    element_next c.args.elements.now c.loop-element.element-index c.element-item.result c.loop-element.sizes
    c.sizes.result.now c.with_child-sizes.result c.loop-element-test.true c.element-item.is c.sizes.ensures
    c.with_child-sizes.ensures c.loop-element.invariant

pub returns : goal.returns
returns c =
    let few : length c.args.elements.now < 2 ^ 64 = search rules in
    all_elements c.args.elements.now c.loop-element.element-index c.loop-element.sizes _ c.loop-element-test.false few
    c.loop-element.invariant refl refl c.max.ensures
