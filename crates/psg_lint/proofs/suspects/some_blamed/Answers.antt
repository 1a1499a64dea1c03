use Rattle.std.proofs.Common.{◌≡◌, inl, inr, ◌<◌, ◌≤◌, true, false, refl, length, true≢false, arith, sym, subst, ◌∙◌, slice_get, Some, rules}
use Rattle.std.proofs.lemmas.Bool.{cases_eq}
use Rattle.std.proofs.lemmas.Option.{same_Some, slice_get_within}
use Rattle.psg_lint.proofs.WrongLaws.{blamed_is, kept_is}
use Rattle.psg_lint.proofs.suspects.some_blamed.Goals as goal

pub loop-place-init : goal.loop-place-init
loop-place-init c = λ n lt. absurd (omega (arith, lt))

pub returns-then-is_blamed : goal.returns-then-is_blamed
returns-then-is_blamed c =
    let yes : c.is_blamed.result ≡ true = search rules in
    ((λ t. (c.loop-place.place, blamed_is c.args.kept.now c.loop-place.place c.is_blamed.result c.is_blamed.ensures yes)), (λ h. refl))

pub loop-place-preserved : goal.loop-place-preserved
loop-place-preserved c = λ n lt at.
    let inside : c.loop-place.place < length c.args.kept.now = search rules in
    let no : c.is_blamed.result ≡ false = search rules in
    let kept = kept_is c.args.kept.now c.loop-place.place c.is_blamed.result inside c.is_blamed.ensures no in
    elim (cases_eq n c.loop-place.place) [
      | inl e ↦ true≢false (same_Some true false (sym kept ∙ subst (λ m. slice_get c.args.kept.now m ≡ Some false) e at))
      | inr other ↦ c.loop-place.invariant n (omega (arith, lt, other)) at
    ]

pub returns : goal.returns
returns c =
    let le : length c.args.kept.now ≤ c.loop-place.place = search rules in (
      (λ t. absurd (true≢false (sym t))),
      (λ (n, at). absurd (c.loop-place.invariant n (let lt = slice_get_within c.args.kept.now n false at in omega (arith, lt, le)) at)),
    )
