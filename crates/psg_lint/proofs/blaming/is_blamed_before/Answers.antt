use Rattle.std.proofs.Common.{◌≡◌, ◌<◌, ◌≤◌, true, false, refl, true≢false, sym, arith, rules}
use Rattle.psg_lint.proofs.TellLaws.{none_before, none_more}
use Rattle.psg_lint.proofs.blaming.is_blamed_before.Goals as goal

pub loop-earlier-init : goal.loop-earlier-init
loop-earlier-init c = none_before c.args.wrong.kept.now c.args.wrong.places.now c.args.list.now

pub loop-earlier-preserved : goal.loop-earlier-preserved
loop-earlier-preserved c =
    let no : c.is_blamed_element.result ≡ false = search rules in
    none_more c.args.wrong.kept.now c.args.wrong.places.now c.args.list.now c.loop-earlier.earlier c.is_blamed_element.result
    c.is_blamed_element.ensures no c.loop-earlier.invariant

pub returns-then-is_blamed_element : goal.returns-then-is_blamed_element
returns-then-is_blamed_element c =
    let yes : c.is_blamed_element.result ≡ true = search rules in
    let lt : c.loop-earlier.earlier < c.args.number = search rules in
    let (other, lost, at, same) = c.is_blamed_element.ensures.0 yes in
    ((λ t. (c.loop-earlier.earlier, other, lt, lost, at, same)), (λ h. refl))

pub returns : goal.returns
returns c =
    let le : c.args.number ≤ c.loop-earlier.earlier = search rules in (
      (λ t. absurd (true≢false (sym t))),
      (λ (n, other, lt, lost, at, same). absurd (c.loop-earlier.invariant n (omega (arith, lt, le)) (other, lost, at, same))),
    )
