use Rattle.std.proofs.Common.{◌≡◌, ◌<◌, ◌∙◌, ap, get_or, length, refl, subst, sym, arith}
use Rattle.std.proofs.lemmas.Bool.{false≢true}
use Rattle.psg_tree.specs.Shapes.{height}
use Rattle.psg_cache.specs.Annotated.{below_in, tree_in}
use Rattle.psg_cache.proofs.AlikeLaws.{told_there}
use Rattle.psg_cache.proofs.ChangeLaws.{below_noted}
use Rattle.psg_cache.proofs.ChildLaws.{child_formed}
use Rattle.psg_cache.proofs.SpreadLaws.{equal_all, equal_at, equal_long, equal_next, told_alike, told_unlike}
use Rattle.psg_cache.proofs.pairing.+is_equal.Goals as goal

pub is_equal-requires : goal.is_equal-requires
is_equal-requires t c =
    let def = c.args.language.definition.now in
    let i = c.loop-i.i in
    let are = c.as_slice-inner.ensures.value ∙ c.in_ok-all.ensures in
    let there : i < length c.as_slice-inner.result.now = omega (arith, c.if-notes-inner.false, c.loop-i-test.true) in
    let h = child_formed def c.args.new.now c.requires.formed c.as_slice-inner.result.now are i c.index-inner-i.result there
    c.index-inner-i.is in
    let notes = c.below-notes.ensures in
    let mine : i < length (below_in c.args.old.now) = subst (λ ns. i < length ns) notes c.loop-i-test.true in
    let d : height c.args.new.now ≡ t = c.decreases in (
      omega (arith, h.1, d),
      (
        below_noted def c.args.old.now i c.index-notes-i.result c.requires.noted mine
            (c.index-notes-i.is ∙ ap (λ ns. get_or ns i c.index-notes-i.result) notes),
        h.0,
      ),
    )

pub returns-then-not-tops : goal.returns-then-not-tops
returns-then-not-tops t c =
    let old = tree_in c.args.old.now in
    let told = told_there c.tops_alike-tops.result c.tree.result.now old c.args.new.now c.tree.ensures
    c.tops_alike-tops.ensures in (
      λ e. absurd (false≢true e),
      λ same. absurd ((told_unlike c.tops_alike-tops.result old c.args.new.now told c.if-not-tops.true).differ same),
    )

pub returns-then-notes-inner : goal.returns-then-notes-inner
returns-then-notes-inner t c = (
  λ e. absurd (false≢true e),
  λ same.
      absurd (c.if-notes-inner.true
      (equal_long c.args.language.definition.now c.args.old.now c.args.new.now c.below-notes.result.now
      c.as_slice-inner.result.now c.requires.noted c.below-notes.ensures
      (c.as_slice-inner.ensures.value ∙ c.in_ok-all.ensures) same)),
)

pub loop-i-preserved : goal.loop-i-preserved
loop-i-preserved t c =
    let there : c.loop-i.i < length c.as_slice-inner.result.now =
    omega (arith, c.if-notes-inner.false, c.loop-i-test.true) in
    equal_next c.below-notes.result.now c.as_slice-inner.result.now c.loop-i.i c.index-notes-i.result
    c.index-inner-i.result c.loop-i-test.true there c.index-notes-i.is c.index-inner-i.is
    (c.in_ok-equal.ensures.0 c.if-not-equal.false) c.loop-i.invariant

pub returns-then-not-equal : goal.returns-then-not-equal
returns-then-not-equal t c =
    let there : c.loop-i.i < length c.as_slice-inner.result.now =
    omega (arith, c.if-notes-inner.false, c.loop-i-test.true) in (
      λ e. absurd (false≢true e),
      λ same.
          absurd (false≢true (sym c.if-not-equal.true
          ∙ c.in_ok-equal.ensures.1
          (equal_at c.args.language.definition.now c.args.old.now c.args.new.now c.below-notes.result.now
          c.as_slice-inner.result.now c.requires.noted c.below-notes.ensures
          (c.as_slice-inner.ensures.value ∙ c.in_ok-all.ensures) c.loop-i.i c.index-notes-i.result
          c.index-inner-i.result c.loop-i-test.true there c.index-notes-i.is c.index-inner-i.is same))),
    )

pub returns : goal.returns
returns t c =
    let old = tree_in c.args.old.now in
    let told = told_there c.tops_alike-tops.result c.tree.result.now old c.args.new.now c.tree.ensures
    c.tops_alike-tops.ensures in
    let whole = equal_all c.args.language.definition.now c.args.old.now c.args.new.now c.below-notes.result.now
    c.as_slice-inner.result.now c.requires.noted c.below-notes.ensures
    (c.as_slice-inner.ensures.value ∙ c.in_ok-all.ensures)
    (told_alike c.tops_alike-tops.result old c.args.new.now told c.if-not-tops.false) c.loop-i.i
    (omega (arith, c.loop-i-test.false)) (omega (arith, c.if-notes-inner.false)) c.loop-i.invariant in
    (λ yes. whole, λ h. refl)
