use Rattle.std.proofs.Common.{◌<◌, All, length, slice_index_or, refl, sym, subst}
use Rattle.std.proofs.lemmas.List.Elements.{All-get_or, All-nil}
use Rattle.psg_terms.proofs.Lists.{slice_get_item}
use Rattle.psg_unify.specs.Pairs.{Pair}
use Rattle.psg_relation.specs.Forcing.{IsFit, IsForced}
use Rattle.psg_relation.proofs.Pairing.{pair_equal}
use Rattle.psg_relation.proofs.forcing.forced_pairs.Goals as goal

pub loop-i-init : goal.loop-i-init
loop-i-init c =
    let sig = c.args.sig.now in (
      (subst (All (IsFit sig)) (sym c.new-lefts.ensures.items) (All-nil (IsFit sig)), subst (All (IsFit sig)) (sym c.new-rights.ensures.items) (All-nil (IsFit sig))),
      (
        λ f g a. subst (All (IsForced f)) (sym c.new-lefts.ensures.items) (All-nil (IsForced f)),
        λ f g a. subst (All (IsForced g)) (sym c.new-rights.ensures.items) (All-nil (IsForced g)),
      ),
    )

pub loop-i-preserved : goal.loop-i-preserved
loop-i-preserved c =
    let p : Pair = slice_index_or c.args.pairs.now c.loop-i.i (0, 0) in
    let both = All-get_or (λ (q : Pair). (q.0 < length c.args.left.now) × (q.1 < length c.args.right.now)) c.args.pairs.now c.loop-i.i (0, 0) c.loop-i-test.true c.requires in
    let equal = pair_equal c.args.left.now c.args.right.now c.args.pairs.now c.loop-i.i p (0, 0) c.index-left-pair.result c.index-right-pair.result c.loop-i-test.true refl
    (slice_get_item c.args.left.now p.0 c.index-left-pair.result both.0 c.index-left-pair.is) (slice_get_item c.args.right.now p.1 c.index-right-pair.result both.1 c.index-right-pair.is) in
    let h = c.loop-i.invariant in (
      (c.in_ok-force_closed.ensures.fit h.0.0, c.in_ok-force_closed-2.ensures.fit h.0.1),
      (
        λ f g a. c.in_ok-force_closed.ensures.forced f g (h.1.0 f g a) (equal f g a),
        λ f g a. c.in_ok-force_closed-2.ensures.forced g f (h.1.1 f g a) (sym (equal f g a)),
      ),
    )

pub returns-clause-left : goal.returns-clause-left
returns-clause-left c = (c.loop-i.invariant.0.0, c.loop-i.invariant.1.0)

pub returns-clause-right : goal.returns-clause-right
returns-clause-right c = (c.loop-i.invariant.0.1, c.loop-i.invariant.1.1)
