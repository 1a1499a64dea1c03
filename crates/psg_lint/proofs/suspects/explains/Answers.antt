use Rattle.std.proofs.Common.{◌≡◌, ◌↔◌, Bool, List, true, false, true≢false, ap, slice_get, sym, subst, ◌∙◌, rules}
use Rattle.psg_lint.specs.Judged.{def_of, fresh_of, tree_in}
use Rattle.psg_lint.specs.Hints.{IsGoodWith}
use Rattle.psg_lint.proofs.SuspectLaws.{each_place, explaining, no_contents, not_explaining}
use Rattle.psg_lint.proofs.WrongLaws.{beside_itself}
use Rattle.psg_lint.proofs.suspects.explains.Goals as goal

pub returns-then-not-all_outside : goal.returns-then-not-all_outside
returns-then-not-all_outside g c =
    let no : c.all_outside.result ≡ false = search rules in (
      (λ t. absurd (true≢false (sym t))),
      (λ h. absurd (not_explaining (def_of c.args.wrong) (tree_in c.args.wrong) (fresh_of c.args.wrong) c.args.wrong.kept.now c.args.path.now c.args.number
          (λ out. true≢false (sym (c.all_outside.ensures.1 out) ∙ no)) h)),
    )

pub returns-then-not-some_blamed : goal.returns-then-not-some_blamed
returns-then-not-some_blamed g c =
    let no : c.some_blamed.result ≡ false = search rules in (
      (λ t. absurd (true≢false (sym t))),
      (λ h. absurd (no_contents (def_of c.args.wrong) (tree_in c.args.wrong) (fresh_of c.args.wrong) c.args.wrong.kept.now c.args.path.now c.args.number
          c.in_ok-answers.answers.items c.in_ok-answers.ensures.opens
          (λ n at. true≢false (sym (c.some_blamed.ensures.1 (n, ap (λ xs. slice_get xs n) (c.as_slice.ensures.value) ∙ at)) ∙ no)) h)),
    )

pub can_be-requires-clause-kinds : goal.can_be-requires-clause-kinds
can_be-requires-clause-kinds g c = beside_itself c.args.wrong c.requires.wrong

pub returns : goal.returns
returns g c =
    let w = c.args.wrong in
    let out : c.all_outside.result ≡ true = search rules in
    let yes : c.some_blamed.result ≡ true = search rules in
    let (n, at) = c.some_blamed.ensures.0 yes in
    explaining (def_of w) (tree_in w) (fresh_of w) w.kept.now c.args.path.now c.args.number c.in_ok-answers.answers.items c.in_ok-good.good
    (c.all_outside.ensures.0 out)
    (each_place (def_of w) (tree_in w) c.in_ok-answers.answers.items w.places.now c.requires.wrong.places c.in_ok-answers.ensures.each)
    c.in_ok-answers.ensures.opens (n, ap (λ xs. slice_get xs n) (sym c.as_slice.ensures.value) ∙ at)
    (subst (λ (ks : List Bool). (c.in_ok-good.good ≡ true) ↔ IsGoodWith (def_of w) (fresh_of w) (tree_in w) ks) c.as_slice-2.ensures.value c.in_ok-good.ensures.good)
