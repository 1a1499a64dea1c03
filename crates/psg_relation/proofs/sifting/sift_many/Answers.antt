use Rattle.std.proofs.Common.{subst}
use Rattle.psg_relation.specs.Sifted.{AreCovered}
use Rattle.psg_relation.proofs.Splitting.{lightly, losing}
use Rattle.psg_relation.proofs.sifting.sift_many.Goals as goal

pub returns-then-branch-clause-rows : goal.returns-then-branch-clause-rows
returns-then-branch-clause-rows c =
    lightly c.args.rows.items c.in_ok-sifted.sifted.kept.items c.in_ok-sifted.sifted.heavy.items c.in_ok-sifted.ensures.halved
    (subst (λ b. AreCovered b c.in_ok-sifted.sifted.kept.items c.in_ok-sifted.sifted.heavy.items) c.if-branch.true
    (subst (λ x. AreCovered c.in_ok-are_covered.field-0 x c.in_ok-sifted.sifted.heavy.items) c.as_slice.ensures.value
    (subst (AreCovered c.in_ok-are_covered.field-0 c.as_slice.result.now) c.as_slice-2.ensures.value c.in_ok-are_covered.ensures)))

pub returns-else-branch-clause-rows : goal.returns-else-branch-clause-rows
returns-else-branch-clause-rows c =
    losing c.args.rows.items c.in_ok-sifted.sifted.kept.items c.in_ok-sifted.sifted.heavy.items c.in_ok-sifted.ensures.halved
    (subst (λ b. AreCovered b c.in_ok-sifted.sifted.kept.items c.in_ok-sifted.sifted.heavy.items) c.if-branch.false
    (subst (λ x. AreCovered c.in_ok-are_covered.field-0 x c.in_ok-sifted.sifted.heavy.items) c.as_slice.ensures.value
    (subst (AreCovered c.in_ok-are_covered.field-0 c.as_slice.result.now) c.as_slice-2.ensures.value c.in_ok-are_covered.ensures)))
