use Rattle.std.proofs.Common.{◌≡◌, ◌<◌, get_or, length, true, false, arith, rules}
use Rattle.psg_lint.specs.Judged.{def_of, tree_in}
use Rattle.psg_lint.proofs.HintLaws.{loose_place, not_kept}
use Rattle.psg_lint.proofs.WrongLaws.{all_listed, blamed_is, got_at, kept_is}
use Rattle.psg_lint.proofs.hints.loose_kept.Goals as goal

pub returns-then-is_blamed : goal.returns-then-is_blamed
returns-then-is_blamed c = λ w.
    not_kept (def_of c.args.wrong) (tree_in c.args.wrong) c.args.wrong.kept.now c.args.region.now c.args.number w
    (blamed_is c.args.wrong.kept.now c.args.number c.is_blamed.result c.is_blamed.ensures (let yes : c.is_blamed.result ≡ true = search rules in yes))

pub bounds-wrong-number : goal.bounds-wrong-number
bounds-wrong-number c =
    let le = all_listed c.args.wrong c.requires.wrong in
    let lt : c.args.number < length c.args.wrong.places.now = omega (arith, le, c.requires.number) in search (rules, lt)

pub offset_bounds-wrong-number : goal.offset_bounds-wrong-number
offset_bounds-wrong-number c =
    let le = all_listed c.args.wrong c.requires.wrong in
    let lt : c.args.number < length c.args.wrong.places.now = omega (arith, le, c.requires.number) in search (rules, lt)

pub returns : goal.returns
returns c =
    let w = c.args.wrong in
    loose_place (def_of w) (tree_in w) w.kept.now c.args.region.now c.args.number w.places.now (get_or w.places.now c.args.number c.index-wrong-number.result) c.in_ok-found.found
    c.requires.wrong.places (got_at w c.requires.wrong c.args.number c.requires.number c.index-wrong-number.result)
    (kept_is w.kept.now c.args.number c.is_blamed.result c.requires.number c.is_blamed.ensures (let no : c.is_blamed.result ≡ false = search rules in no))
    c.in_ok-found.ensures
