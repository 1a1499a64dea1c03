use Rattle.std.proofs.Common.{◌≡◌, ◌<◌, get_or, length, arith, true, false, true≢false, ap, sym, ◌∙◌, rules}
use Rattle.psg_lint.proofs.SuspectLaws.{same_at}
use Rattle.psg_lint.proofs.WrongLaws.{all_listed, blamed_is, got_at, kept_is}
use Rattle.psg_uses.specs.Naming.{path_of_place}
use Rattle.psg_places.specs.Ways.{goes_through}
use Rattle.std.proofs.lemmas.Option.{same_Some}
use Rattle.psg_lint.proofs.suspects.is_blamed_inside.Goals as goal

pub returns-then-not-is_blamed : goal.returns-then-not-is_blamed
returns-then-not-is_blamed c =
    let no : c.is_blamed.result ≡ false = search rules in
    let kept = kept_is c.args.wrong.kept.now c.args.number c.is_blamed.result c.requires.number c.is_blamed.ensures no in (
      (λ t. absurd (true≢false (sym t))),
      (λ (p, lost, at, through). absurd (true≢false (same_Some true false (sym kept ∙ lost)))),
    )

pub bounds-wrong-number : goal.bounds-wrong-number
bounds-wrong-number c =
    let le = all_listed c.args.wrong c.requires.wrong in
    let lt : c.args.number < length c.args.wrong.places.now = omega (arith, le, c.requires.number) in search (rules, lt)

pub offset_bounds-wrong-number : goal.offset_bounds-wrong-number
offset_bounds-wrong-number c =
    let le = all_listed c.args.wrong c.requires.wrong in
    let lt : c.args.number < length c.args.wrong.places.now = omega (arith, le, c.requires.number) in search (rules, lt)

pub returns : goal.returns
returns c =
    let w = c.args.wrong in
    let yes : c.is_blamed.result ≡ true = search rules in
    let lost = blamed_is w.kept.now c.args.number c.is_blamed.result c.is_blamed.ensures yes in
    let at = got_at w c.requires.wrong c.args.number c.requires.number c.index-wrong-number.result in
    let place = get_or w.places.now c.args.number c.index-wrong-number.result in (
      (λ t. (place, lost, at, sym c.is_inside.ensures ∙ t)),
      (λ (p, gone, there, through). c.is_inside.ensures
          ∙ ap (λ x. goes_through c.args.path.now (path_of_place x)) (same_at w.places.now c.args.number place p at there) ∙ through),
    )
