use Rattle.std.proofs.Common.{◌≡◌, ◌+◌, ◌∷◌, [], length, take, ap, ◌∙◌, arith}
use Rattle.std.proofs.lemmas.List.{length-take-le}
use Rattle.psg_tree.proofs.Children.{part_more, length-subtrees-le}
use Rattle.psg_tree.proofs.places.with_part.Goals as goal

pub overflow_add-seen : goal.overflow_add-seen
overflow_add-seen c =
    let s = length-subtrees-le (take c.loop-part.part-index c.args.parts.now) in
    let n : length (take c.loop-part.part-index c.args.parts.now) ≡ c.loop-part.part-index = length-take-le c.loop-part.part-index c.args.parts.now (omega arith) in
    let p = length-subtrees-le (c.part-item.result ∷ []) in
    omega arith

pub loop-part-preserved : goal.loop-part-preserved
loop-part-preserved c =
    let m = part_more c.args.new.now c.args.number c.args.parts.now c.loop-part.part-index c.loop-part.seen c.part-item.result c.in_ok-copy.copy c.push.new.self.items c.loop-part.made.items
    c.loop-part-test.true c.part-item.is c.loop-part.invariant.1 c.in_ok-copy.ensures c.loop-part.invariant.0 c.in_ok-push.ensures.items in
    (m.0, ap (λ n. c.loop-part.seen + n) c.subtrees_in-seen.ensures ∙ m.1)
