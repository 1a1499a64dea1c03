use Rattle.std.proofs.Common.{◌<◌, [], length, slice_index_or, refl, sym, subst, arith}
use Rattle.std.proofs.lemmas.List.Elements.{All-get_or}
use Rattle.psg_terms.proofs.Lists.{slice_get_item}
use Rattle.psg_unify.specs.Pairs.{Pair}
use Rattle.psg_relation.specs.Narrowing.{ArePaired}
use Rattle.psg_relation.proofs.NarrowPlans.{paired_none, paired_step, paired_all}
use Rattle.psg_relation.proofs.narrowing.paired.Goals as goal

pub loop-i-init : goal.loop-i-init
loop-i-init c = λ sig j.
    subst (λ xs. ArePaired sig c.args.left.now c.args.right.now [] xs c.new-rights.result.items) (sym c.new-lefts.ensures.items)
    (subst (ArePaired sig c.args.left.now c.args.right.now [] []) (sym c.new-rights.ensures.items) (paired_none sig c.args.left.now c.args.right.now))

pub loop-i-preserved : goal.loop-i-preserved
loop-i-preserved c = λ sig j.
    let p : Pair = slice_index_or c.args.pairs.now c.loop-i.i (0, 0) in
    let both = All-get_or (λ (q : Pair). (q.0 < length c.args.left.now) × (q.1 < length c.args.right.now)) c.args.pairs.now c.loop-i.i (0, 0) c.loop-i-test.true c.requires in
    paired_step sig c.args.left.now c.args.right.now c.args.pairs.now j c.loop-i.i p (0, 0) c.index-left-pair.result c.index-right-pair.result c.loop-i-test.true refl
    (slice_get_item c.args.left.now p.0 c.index-left-pair.result both.0 c.index-left-pair.is) (slice_get_item c.args.right.now p.1 c.index-right-pair.result both.1 c.index-right-pair.is)
    c.loop-i.lefts.items c.loop-i.rights.items c.push_open.new.lefts.items c.push_open.new.rights.items (c.loop-i.invariant sig j) c.in_ok-push_open.ensures

pub returns-clause-paired : goal.returns-clause-paired
returns-clause-paired c = λ sig j. paired_all sig c.args.left.now c.args.right.now c.args.pairs.now c.loop-i.i c.loop-i.lefts.items c.loop-i.rights.items (omega arith) (c.loop-i.invariant sig j)
