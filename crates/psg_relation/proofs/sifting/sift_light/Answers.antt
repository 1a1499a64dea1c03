use Rattle.psg_relation.specs.Ordered.{is_not_above}
use Rattle.psg_relation.proofs.Ordered.{texts_ordered}
use Rattle.psg_relation.proofs.Splitting.{halved}
use Rattle.psg_relation.proofs.sifting.sift_light.Goals as goal

pub returns-clause-halved : goal.returns-clause-halved
returns-clause-halved c =
    halved c.args.rows.items c.in_ok-split.split.light.items c.in_ok-split.split.heavy.items c.in_ok-sorted.sorted.items c.in_ok-once.once.items c.in_ok-kept.kept.items
    c.in_ok-split.ensures c.in_ok-sorted.ensures.same c.in_ok-once.ensures.same c.in_ok-kept.ensures.sifted

pub returns-clause-order : goal.returns-clause-order
returns-clause-order c =
    let test = is_not_above c.args.sig.now in
    texts_ordered c.args.sig.now c.in_ok-kept.kept.items (c.in_ok-kept.ensures.order test (c.in_ok-once.ensures.order test c.in_ok-sorted.ensures.order))
