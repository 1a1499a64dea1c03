use Rattle.std.proofs.Common.{◌<◌, true, false, length, slice_index_or, refl, arith}
use Rattle.std.proofs.lemmas.List.Elements.{All-get_or}
use Rattle.psg_terms.proofs.Lists.{slice_get_item}
use Rattle.psg_unify.specs.Pairs.{Pair}
use Rattle.psg_relation.proofs.Pairing.{settled_is, never, always_more, always_all}
use Rattle.psg_relation.proofs.settling.settled_pairs.Goals as goal

pub loop-i-init : goal.loop-i-init
loop-i-init c = λ _ f g. tt

pub returns-then-is_never : goal.returns-then-is_never
returns-then-is_never c =
    let p : Pair = slice_index_or c.args.pairs.now c.loop-i.i (0, 0) in
    let both = All-get_or (λ (q : Pair). (q.0 < length c.args.left.now) × (q.1 < length c.args.right.now)) c.args.pairs.now c.loop-i.i (0, 0) c.loop-i-test.true c.requires in
    never c.args.left.now c.args.right.now c.args.pairs.now c.loop-i.i p (0, 0) c.index-left-pair.result c.index-right-pair.result c.loop-i-test.true refl
    (slice_get_item c.args.left.now p.0 c.index-left-pair.result both.0 c.index-left-pair.is) (slice_get_item c.args.right.now p.1 c.index-right-pair.result both.1 c.index-right-pair.is)
    false refl (settled_is c.index-left-pair.result c.index-right-pair.result c.settled-equal.result false (c.is_never.ensures c.if-is_never.true) c.settled-equal.ensures)

pub loop-i-preserved : goal.loop-i-preserved
loop-i-preserved c = λ t.
    let p : Pair = slice_index_or c.args.pairs.now c.loop-i.i (0, 0) in
    let both = All-get_or (λ (q : Pair). (q.0 < length c.args.left.now) × (q.1 < length c.args.right.now)) c.args.pairs.now c.loop-i.i (0, 0) c.loop-i-test.true c.requires in
    let always = c.is_always-all.ensures t in
    always_more c.args.left.now c.args.right.now c.args.pairs.now c.loop-i.i p (0, 0) c.index-left-pair.result c.index-right-pair.result c.loop-i-test.true refl
    (slice_get_item c.args.left.now p.0 c.index-left-pair.result both.0 c.index-left-pair.is) (slice_get_item c.args.right.now p.1 c.index-right-pair.result both.1 c.index-right-pair.is)
    true refl (settled_is c.index-left-pair.result c.index-right-pair.result c.settled-equal.result true always.1 c.settled-equal.ensures) (c.loop-i.invariant always.0)

pub returns-then-all : goal.returns-then-all
returns-then-all c = always_all c.args.left.now c.args.right.now c.args.pairs.now c.loop-i.i (omega arith) (c.loop-i.invariant c.if-all.true)
