use Rattle.std.proofs.Common.{take, refl, sym, subst, ◌∙◌, arith}
use Rattle.std.proofs.lemmas.Bool.{false≢true}
use Rattle.std.proofs.lemmas.List.{take_all}
use Rattle.psg_cache.specs.Alike.{AreOwnAlike}
use Rattle.psg_cache.proofs.AlikeLaws.{own_at, own_long, own_next}
use Rattle.psg_cache.proofs.renoting.own_alike.Goals as goal

pub returns-then-left-right : goal.returns-then-left-right
returns-then-left-right c = (
  λ e. absurd (false≢true e),
  λ h. absurd (c.if-left-right.true (own_long c.args.left.now c.args.right.now h)),
)

pub returns-then-not-part_alike : goal.returns-then-not-part_alike
returns-then-not-part_alike c = (
  λ e. absurd (false≢true e),
  λ h.
      let n = c.loop-i.invariant.0 in
      absurd (false≢true (sym c.if-not-part_alike.true
      ∙ c.part_alike.ensures.1 (own_at c.args.left.now c.args.right.now c.loop-i.i c.index-left-i.result
      c.index-right-i.result c.loop-i-test.true (omega (arith, n, c.loop-i-test.true)) c.index-left-i.is c.index-right-i.is h))),
)

pub loop-i-preserved : goal.loop-i-preserved
loop-i-preserved c = (
  c.loop-i.invariant.0,
  (let more = own_next c.args.left.now c.args.right.now c.loop-i.i c.index-left-i.result c.index-right-i.result
      c.loop-i.invariant.1 c.loop-i-test.true (let n = c.loop-i.invariant.0 in omega arith) c.index-left-i.is c.index-right-i.is
      (c.part_alike.ensures.0 c.if-not-part_alike.false) in more),
)

pub returns : goal.returns
returns c =
    let n = c.loop-i.invariant.0 in
    let all = c.loop-i.invariant.1 in
    let whole =
    subst (λ xs. AreOwnAlike xs c.args.right.now) (take_all c.loop-i.i c.args.left.now (omega arith))
    (subst (AreOwnAlike (take c.loop-i.i c.args.left.now)) (take_all c.loop-i.i c.args.right.now (omega arith)) all) in
    (λ yes. whole, λ h. refl)
