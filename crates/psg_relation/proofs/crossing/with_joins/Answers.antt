use Rattle.std.proofs.Common.{◌+◌, ◌<◌, ℕ, All, length, sym, subst}
use Rattle.psg_unify.specs.Pairs.{AreJoinable}
use Rattle.psg_relation.specs.Joining.{IsMore}
use Rattle.psg_relation.proofs.Members.{in-at}
use Rattle.psg_relation.proofs.Meeting.{each_step}
use Rattle.psg_relation.proofs.crossing.with_joins.Goals as goal

pub with_join_in-requires-clause-joinable : goal.with_join_in-requires-clause-joinable
with_join_in-requires-clause-joinable c =
    subst (λ r. AreJoinable c.args.sig.now c.args.one.now r c.args.pairs.now) (sym c.terms.ensures)
    (c.requires c.other-item.result (in-at c.other-item.result c.args.right.now c.loop-other.other-index c.loop-other-test.true c.other-item.is)).joinable

pub with_join_in-requires-clause-keep : goal.with_join_in-requires-clause-keep
with_join_in-requires-clause-keep c =
    subst (λ r. All (λ (k : ℕ). k < length c.args.one.now + length r) c.args.keep.now) (sym c.terms.ensures)
    (c.requires c.other-item.result (in-at c.other-item.result c.args.right.now c.loop-other.other-index c.loop-other-test.true c.other-item.is)).within

pub loop-other-preserved : goal.loop-other-preserved
loop-other-preserved c = λ done a.
    each_step c.args.sig.now c.args.pairs.now c.args.keep.now done c.args.one.now c.args.right.now c.loop-other.more.items c.in_ok-more.more.items c.loop-other.other-index c.other-item.result c.loop-other-test.true c.other-item.is (c.loop-other.invariant done a)
    (subst (λ r. IsMore c.args.sig.now c.args.pairs.now c.args.keep.now c.args.one.now r c.loop-other.more.items c.in_ok-more.more.items) c.terms.ensures c.in_ok-more.ensures)
