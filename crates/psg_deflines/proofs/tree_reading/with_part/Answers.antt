use Rattle.std.proofs.Common.{refl, ap, ◌∙◌}
use Rattle.psg_deflines.specs.WrittenTrees.{operator}
use Rattle.psg_deflines.specs.TreeShapes.{with_parts}
use Rattle.psg_deflines.specs.TreeWalks.{in_operator}
use Rattle.psg_deflines.proofs.TreeStageLaws.{parts-snoc}
use Rattle.psg_deflines.proofs.TreeMoves.{no-part, part-moved}
use Rattle.psg_deflines.proofs.tree_reading.with_part.Goals as goal

pub returns-in_default-as_operator : goal.returns-in_default-as_operator
returns-in_default-as_operator c = λ fs literal h.
    no-part c.args.trees (record { frames = c.pop.new.self; deep = c.args.trees.deep }) c.in-Some.frame fs h c.in-Some.ensures.items refl c.args.part c.in_default-as_operator.ensures

pub returns : goal.returns
returns c = λ fs literal h.
    part-moved c.args.trees (record { frames = c.pop.new.self; deep = c.args.trees.deep }) c.in-Some.frame fs h c.in-Some.ensures.items refl _ _ _ c.args.part literal c.in-Some-as_operator.ensures refl
    (λ n. ap (λ ps. in_operator (with_parts (operator c.in-Some-as_operator.name) ps)) (c.in_ok-parts.ensures n) ∙ ap in_operator (parts-snoc (operator c.in-Some-as_operator.name) c.in-Some-as_operator.parts.items c.args.part))
    c.in_ok-push.ensures.items refl
