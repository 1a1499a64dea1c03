use Rattle.std.proofs.Common.{◌≡◌, Some, ap, true, false, true≢false, sym, ◌∙◌, rules}
use Rattle.std.proofs.lemmas.Option.{same_Some}
use Rattle.psg_lint.proofs.SuspectLaws.{same_at}
use Rattle.psg_lint.proofs.WrongLaws.{blamed_is, kept_is}
use Rattle.psg_lint.proofs.blaming.is_blamed_element.Goals as goal

pub returns-then-not-is_blamed : goal.returns-then-not-is_blamed
returns-then-not-is_blamed c =
    let kept = kept_is c.args.wrong.kept.now c.args.number c.is_blamed.result c.requires.number c.is_blamed.ensures
    (let none : c.is_blamed.result ≡ false = search rules in none) in (
      (λ t. absurd (true≢false (sym t))),
      (λ (other, lost, at, same). absurd (true≢false (same_Some true false (sym kept ∙ lost)))),
    )

pub returns : goal.returns
returns c =
    let w = c.args.wrong in
    let lost = blamed_is w.kept.now c.args.number c.is_blamed.result c.is_blamed.ensures (let so : c.is_blamed.result ≡ true = search rules in so) in
    let at = c.place_at-place.ensures in (
      (λ t. let (other, is, same) = c.is_element_of.ensures.0 t in (other, lost, at ∙ ap Some is, same)),
      (λ (other, gone, there, same). c.is_element_of.ensures.1 (other, same_at w.places.now c.args.number c.place_at-place.result.now _ at there, same)),
    )
