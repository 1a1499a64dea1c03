use Rattle.std.proofs.Common.{◌∷◌, [], ◌+◌, drop, ap, ◌∙◌, arith}
use Rattle.std.proofs.lemmas.List.{drop_all}
use Rattle.psg_terms.proofs.Lists.{drop_item}
use Rattle.psg_tree.specs.Shapes.{subtrees}
use Rattle.psg_explain.proofs.CasingLaws.{all_pushed}
use Rattle.psg_explain.proofs.GivenLaws.{all_there}
use Rattle.psg_explain.proofs.StagingLaws.{subtrees_more}
use Rattle.psg_explain.proofs.staging.subtrees.Goals as goal

pub loop-part-preserved : goal.loop-part-preserved
loop-part-preserved c =
    let ps = c.args.parts.now in
    let i = c.loop-part.part-index in
    let p = c.part-item.result in
    all_pushed c.loop-part.found.items c.add_subtree.new.found.items (subtrees ps) (subtrees (drop i ps)) (subtrees (p ∷ [])) (subtrees (drop (i + 1) ps)) c.in_ok-add_subtree.ensures c.loop-part.invariant
    (ap subtrees (drop_item ps i p c.loop-part-test.true c.part-item.is) ∙ subtrees_more (drop (i + 1) ps) p)

pub returns : goal.returns
returns c =
    all_there c.loop-part.found.items (subtrees (drop c.loop-part.part-index c.args.parts.now)) (subtrees c.args.parts.now) c.loop-part.invariant (ap subtrees (drop_all c.loop-part.part-index c.args.parts.now (omega arith)))
