use Rattle.std.proofs.Common.{get_or}
use Rattle.std.proofs.lemmas.List.{get_or_default}
use Rattle.psg_covering.proofs.KindLaws.{number_in, row_is}
use Rattle.psg_covering.proofs.numbers.row_at.Goals as goal

pub row_of-requires : goal.row_of-requires
row_of-requires c =
    let number = get_or c.args.numbers.now c.args.place 0 in
    number_in c.args.definition.now c.args.kind c.args.numbers.now c.as_slice.result.now c.as_slice.ensures c.requires.rows c.args.place number
    c.requires.place (get_or_default c.args.numbers.now c.args.place 0 number c.requires.place)

pub returns : goal.returns
returns c =
    let number = get_or c.args.numbers.now c.args.place 0 in
    row_is c.args.definition.now c.args.kind c.args.numbers.now c.as_slice.result.now c.as_slice.ensures c.requires.rows c.args.place number
    c.requires.place (get_or_default c.args.numbers.now c.args.place 0 number c.requires.place) c.row_of.result.now c.row_of.ensures
