use Rattle.std.proofs.Common.{◌≡◌, ℕ, ◌-◌, ◌∙◌, ap, get_or, length, refl, subst, arith}
use Rattle.psg_cache.specs.Alike.{IsBack}
use Rattle.psg_cache.proofs.ChangeLaws.{below_noted}
use Rattle.psg_cache.proofs.ChildLaws.{child_formed}
use Rattle.psg_cache.proofs.SpreadLaws.{back_next, back_none}
use Rattle.psg_cache.proofs.pairing.common_back.Goals as goal

pub returns-then-notes-inner : goal.returns-then-notes-inner
returns-then-notes-inner c = back_none c.args.old.now c.args.new.now

pub loop-back-init : goal.loop-back-init
loop-back-init c = record { same = back_none c.args.old.now c.args.new.now; small = omega arith }

pub is_equal-requires-clause-noted : goal.is_equal-requires-clause-noted
is_equal-requires-clause-noted c =
    let notes = c.below-notes.ensures in
    let less = c.lesser-most.ensures.within in
    let count = ap length notes in
    let place : ℕ = length c.below-notes.result.now - c.loop-back.back - 1 in
    below_noted c.args.language.definition.now c.args.old.now place c.index-notes-before.result c.requires.noted
    (omega (arith, less.0, count, c.loop-back-test.true))
    (c.index-notes-before.is ∙ ap (λ ns. get_or ns place c.index-notes-before.result) notes)

pub is_equal-requires-clause-formed : goal.is_equal-requires-clause-formed
is_equal-requires-clause-formed c =
    let less = c.lesser-most.ensures.within in
    let place : ℕ = length c.args.inner.now - c.loop-back.back - 1 in
    let h = child_formed c.args.language.definition.now c.args.new.now c.requires.formed c.args.inner.now c.requires.inner
    place c.index-inner-after.result (omega (arith, less.1, c.loop-back-test.true)) c.index-inner-after.is in
    h.0

pub loop-back-preserved : goal.loop-back-preserved
loop-back-preserved c =
    let less = c.lesser-most.ensures.within in
    record {
      same =
          back_next c.args.old.now c.args.new.now c.below-notes.result.now c.args.inner.now c.loop-back.back _ _
          c.index-notes-before.result c.index-inner-after.result c.below-notes.ensures c.requires.inner
          (omega (arith, less.0, c.loop-back-test.true)) (omega (arith, less.1, c.loop-back-test.true)) refl refl
          c.index-notes-before.is c.index-inner-after.is (c.in_ok-equal.ensures.0 c.if-not-equal.false)
          c.loop-back.invariant.same;
      small = omega (arith, c.loop-back-test.true);
    }

pub returns : goal.returns
returns c =
    let small = c.loop-back.invariant.small in
    let all : c.loop-back.back ≡ c.lesser-most.result = omega (arith, small, c.loop-back-test.false) in
    subst (IsBack c.args.old.now c.args.new.now) all c.loop-back.invariant.same
