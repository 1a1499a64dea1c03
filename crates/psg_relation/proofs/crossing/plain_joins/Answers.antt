use Rattle.std.proofs.Common.{◌++◌, take, sym, subst}
use Rattle.psg_relation.specs.Joining.{AreJoined, MayMeet, all_pairs, with_each}
use Rattle.psg_relation.proofs.Meeting.{may_meet, pairs_step}
use Rattle.psg_relation.proofs.Members.{in-at}
use Rattle.psg_relation.proofs.crossing.plain_joins.Goals as goal

pub with_joins-requires : goal.with_joins-requires
with_joins-requires c = λ other i.
    subst (λ r. MayMeet c.args.sig.now r other c.args.pairs.now c.args.keep.now) (sym c.terms.ensures)
    (may_meet c.args.sig.now c.args.left.now c.args.right.now c.args.pairs.now c.args.keep.now c.requires c.one-item.result other
    (in-at c.one-item.result c.args.left.now c.loop-one.one-index c.loop-one-test.true c.one-item.is) i)

pub loop-one-preserved : goal.loop-one-preserved
loop-one-preserved c =
    let sig = c.args.sig.now in
    let pairs = c.args.pairs.now in
    let keep = c.args.keep.now in
    let right = c.args.right.now in
    let done = all_pairs (take c.loop-one.one-index c.args.left.now) right in
    pairs_step sig pairs keep c.args.left.now right c.in_ok-made.made.items c.loop-one.one-index c.one-item.result c.loop-one-test.true c.one-item.is
    (subst (λ r. AreJoined sig pairs keep (done ++ with_each r right) c.in_ok-made.made.items) c.terms.ensures (c.in_ok-made.ensures done c.loop-one.invariant))
