use Rattle.std.proofs.Common.{◌≡◌, [], true, false, append-nil, sym, rules}
use Rattle.psg_lint.specs.Suspects.{one_or_none}
use Rattle.psg_lint.specs.Wrongs.{blamed_told, kept_told}
use Rattle.psg_lint.proofs.WrongLaws.{blamed_is, kept_is}
use Rattle.psg_lint.proofs.blaming.tell_place.Goals as goal

pub returns-then-not-is_blamed : goal.returns-then-not-is_blamed
returns-then-not-is_blamed g c = λ r is.
    let no : c.is_blamed.result ≡ false = search rules in (
      [],
      sym (append-nil c.args.found.now.items),
      kept_told (kept_is c.args.wrong.kept.now c.args.number c.is_blamed.result c.requires.number c.is_blamed.ensures no),
    )

pub told_place-requires-clause-blamed : goal.told_place-requires-clause-blamed
told_place-requires-clause-blamed g c =
    let yes : c.is_blamed.result ≡ true = search rules in
    blamed_is c.args.wrong.kept.now c.args.number c.is_blamed.result c.is_blamed.ensures yes

pub returns : goal.returns
returns g c = λ r is.
    let yes : c.is_blamed.result ≡ true = search rules in
    let lost = blamed_is c.args.wrong.kept.now c.args.number c.is_blamed.result c.is_blamed.ensures yes in
    let (place, at, h) = c.in_ok-told.ensures r is in
    (one_or_none c.in_ok-told.told, c.in_ok-push_some.ensures, blamed_told place (one_or_none c.in_ok-told.told) lost at h)
