use Rattle.std.proofs.Common.{◌≡◌, get_or, refl, sym, ◌∙◌, subst, arith}
use Rattle.std.proofs.lemmas.Bool.{false≢true}
use Rattle.psg_relation.proofs.Members.{in-at}
use Rattle.psg_relation.proofs.HeldJoins.{unwritten_held, unheld_more, unheld_whole}
use Rattle.psg_relation.proofs.rejoining.is_held_unwritten.Goals as goal

pub loop-other-init : goal.loop-other-init
loop-other-init c = λ p pairs keep u m (k, h, a). elim h [ ]

pub returns-then-branch : goal.returns-then-branch
returns-then-branch c = λ p pairs keep u m.
    let t = c.terms.result.now in
    let e : t ≡ get_or c.args.kept.now c.loop-other.other-index t = subst (λ r. r ≡ get_or c.args.kept.now c.loop-other.other-index r) (sym c.terms.ensures) c.other-item.is in (
      λ _. (
        t,
        in-at t c.args.kept.now c.loop-other.other-index c.loop-other-test.true e,
        (unwritten_held c.args.sig.now pairs keep c.args.kept.now c.args.row.now c.loop-other.other-index t c.in_ok-is_instance_of.field-0 c.loop-other-test.true e c.in_ok-is_instance_of.ensures p u m).0
            c.if-branch.true,
      ),
      λ _. refl,
    )

pub loop-other-preserved : goal.loop-other-preserved
loop-other-preserved c = λ p pairs keep u m.
    let t = c.terms.result.now in
    let e : t ≡ get_or c.args.kept.now c.loop-other.other-index t = subst (λ r. r ≡ get_or c.args.kept.now c.loop-other.other-index r) (sym c.terms.ensures) c.other-item.is in
    unheld_more c.args.sig.now pairs keep c.args.kept.now p c.loop-other.other-index t c.loop-other-test.true e (c.loop-other.invariant p pairs keep u m)
    (λ all. false≢true (sym c.if-branch.false
    ∙ (unwritten_held c.args.sig.now pairs keep c.args.kept.now c.args.row.now c.loop-other.other-index t c.in_ok-is_instance_of.field-0 c.loop-other-test.true e c.in_ok-is_instance_of.ensures p u m).1 all))

pub returns : goal.returns
returns c = λ p pairs keep u m. (
  λ t. absurd (false≢true t),
  λ h. absurd (unheld_whole c.args.sig.now pairs keep c.args.kept.now p c.loop-other.other-index (omega arith) (c.loop-other.invariant p pairs keep u m) h),
)
