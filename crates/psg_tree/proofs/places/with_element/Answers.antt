use Rattle.std.proofs.Common.{◌∙◌}
use Rattle.psg_tree.proofs.Children.{element_more}
use Rattle.psg_tree.proofs.places.with_element.Goals as goal

pub loop-i-preserved : goal.loop-i-preserved
loop-i-preserved c =
    element_more c.args.new.now c.args.number c.args.elements.now c.loop-i.i c.index-elements-i.result c.in_ok-copy.copy c.push.new.self.items c.loop-i.made.items
    c.loop-i-test.true c.index-elements-i.is (c.in_ok-copy.ensures ∙ c.chosen.ensures) c.loop-i.invariant c.in_ok-push.ensures.items
