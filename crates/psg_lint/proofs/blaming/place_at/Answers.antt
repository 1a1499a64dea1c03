use Rattle.std.proofs.Common.{◌<◌, arith, length, rules}
use Rattle.psg_lint.proofs.WrongLaws.{all_listed, place_at}
use Rattle.psg_lint.proofs.blaming.place_at.Goals as goal

pub bounds-places-number : goal.bounds-places-number
bounds-places-number c =
    let le = all_listed c.args.wrong c.requires.wrong in let lt = c.requires.number in omega (arith, lt, le)

pub offset_bounds-places-number : goal.offset_bounds-places-number
offset_bounds-places-number c =
    let le = all_listed c.args.wrong c.requires.wrong in
    let few = c.requires.number in
    let lt : c.args.number < length c.args.wrong.places.now = omega (arith, few, le) in search (rules, lt)

pub returns : goal.returns
returns c =
    place_at c.args.wrong c.requires.wrong c.args.number c.requires.number c.index-places-number.result c.index-places-number.is
