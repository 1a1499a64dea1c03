use Rattle.std.proofs.Common.{◌≡◌, ◌≤◌, ◌++◌, ap, sym, length, subst, arith}
use Rattle.std.proofs.lemmas.Option.{IfSome_then}
use Rattle.psg_terms.specs.Text.{IsInTextOrder}
use Rattle.psg_relation.specs.Choices.{picked}
use Rattle.psg_relation.specs.Rejoining.{partners, AreSiftedJoins}
use Rattle.psg_relation.specs.Sifted.{AreCovered}
use Rattle.psg_relation.proofs.Splitting.{alone_ordered, lightly, losing}
use Rattle.psg_relation.proofs.HeldJoins.{paired_sorts, sifted_joins}
use Rattle.psg_relation.proofs.rejoining.sift_joins.Goals as goal

pub returns-then-len-le1-clause-order : goal.returns-then-len-le1-clause-order
returns-then-len-le1-clause-order c =
    let few : length c.args.rows.items ≤ 1 = let n = c.len.ensures in let t = c.if-len-le1.true in grind arith in
    IfSome_then c.alone.result {P = (λ kept. kept.items ≡ c.args.rows.items)} {Q = (λ kept. IsInTextOrder c.args.sig.now kept.items)} c.alone.ensures.same (λ kept e. alone_ordered c.args.sig.now kept.items (let same = ap length e in omega arith))

pub sift_light-requires : goal.sift_light-requires
sift_light-requires c = (
  picked (c.requires.may.left_sorts ++ c.requires.may.right_sorts) c.args.keep.now,
  paired_sorts c.args.sig.now c.args.pairs.now c.args.keep.now (partners c.args.with c.args.left.now c.args.right.now) c.args.rows.items c.requires.may c.requires.joined,
)

pub are_joins_covered-requires : goal.are_joins_covered-requires
are_joins_covered-requires c =
    let done = partners c.args.with c.args.left.now c.args.right.now in
    subst (AreSiftedJoins c.args.sig.now c.args.pairs.now c.args.keep.now done c.as_slice-kept.result.now) (sym c.as_slice-heavy.ensures.value)
    (subst (λ k. AreSiftedJoins c.args.sig.now c.args.pairs.now c.args.keep.now done k c.in_ok-sifted.sifted.heavy.items) (sym c.as_slice-kept.ensures.value)
    (sifted_joins c.args.sig.now c.args.pairs.now c.args.keep.now done c.args.rows.items c.in_ok-sifted.sifted.kept.items c.in_ok-sifted.sifted.heavy.items c.sound.ensures c.requires.may
    c.requires.joined c.in_ok-sifted.ensures.halved))

pub returns-then-covered-clause-rows : goal.returns-then-covered-clause-rows
returns-then-covered-clause-rows c =
    lightly c.args.rows.items c.in_ok-sifted.sifted.kept.items c.in_ok-sifted.sifted.heavy.items c.in_ok-sifted.ensures.halved
    (subst (λ b. AreCovered b c.in_ok-sifted.sifted.kept.items c.in_ok-sifted.sifted.heavy.items) c.if-covered.true
    (subst (λ x. AreCovered c.in_ok-covered.covered x c.in_ok-sifted.sifted.heavy.items) c.as_slice-kept.ensures.value
    (subst (AreCovered c.in_ok-covered.covered c.as_slice-kept.result.now) c.as_slice-heavy.ensures.value c.in_ok-covered.ensures)))

pub returns-else-covered-clause-rows : goal.returns-else-covered-clause-rows
returns-else-covered-clause-rows c =
    losing c.args.rows.items c.in_ok-sifted.sifted.kept.items c.in_ok-sifted.sifted.heavy.items c.in_ok-sifted.ensures.halved
    (subst (λ b. AreCovered b c.in_ok-sifted.sifted.kept.items c.in_ok-sifted.sifted.heavy.items) c.if-covered.false
    (subst (λ x. AreCovered c.in_ok-covered.covered x c.in_ok-sifted.sifted.heavy.items) c.as_slice-kept.ensures.value
    (subst (AreCovered c.in_ok-covered.covered c.as_slice-kept.result.now) c.as_slice-heavy.ensures.value c.in_ok-covered.ensures)))
