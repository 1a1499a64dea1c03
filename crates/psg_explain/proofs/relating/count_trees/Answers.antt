use Rattle.std.proofs.Common.{ap, length, ◌∙◌, arith}
use Rattle.psg_tree.specs.Shapes.{subtrees}
use Rattle.psg_explain.proofs.RelatingLaws.{all_taken, trees_next}
use Rattle.psg_explain.proofs.relating.count_trees.Goals as goal

pub loop-i-preserved : goal.loop-i-preserved
loop-i-preserved c =
    trees_next c.args.parts.now c.loop-i.i c.index-parts-i.result c.loop-i.count c.is_tree-count.result c.loop-i-test.true c.index-parts-i.is c.loop-i.invariant.0 c.loop-i.invariant.1 c.is_tree-count.ensures.most c.is_tree-count.ensures.one

pub returns : goal.returns
returns c = c.loop-i.invariant.0 ∙ ap (λ ps. length (subtrees ps)) (all_taken c.args.parts.now c.loop-i.i (omega arith))
