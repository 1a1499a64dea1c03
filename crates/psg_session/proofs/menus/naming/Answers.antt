use Rattle.psg_session.proofs.ChangeLaws.{operator_there}
use Rattle.psg_session.proofs.Offers.{not_one_name, one_named}
use Rattle.psg_session.proofs.Shapes.{read_at}
use Rattle.psg_session.proofs.menus.naming.Goals as goal

pub returns-then-name_positions-ne1 : goal.returns-then-name_positions-ne1
returns-then-name_positions-ne1 c =
    let def = c.args.definition.now in
    let at = read_at c.as_slice.result.now def.operators c.in-Some.op c.index-as_slice-op.result c.as_slice.ensures
    (operator_there def c.in-Some.op c.args.name.now c.in-Some.ensures.found) c.index-as_slice-op.is in
    not_one_name def c.args.phylum c.args.name.now c.in-Some.op c.in-Some.ensures.found c.index-as_slice-op.result at
    c.name_positions.result c.name_positions.ensures c.if-name_positions-ne1.true c.if-operator-phylum.false

pub returns : goal.returns
returns c =
    let def = c.args.definition.now in
    let at = read_at c.as_slice.result.now def.operators c.in-Some.op c.index-as_slice-op.result c.as_slice.ensures
    (operator_there def c.in-Some.op c.args.name.now c.in-Some.ensures.found) c.index-as_slice-op.is in
    one_named def c.args.phylum c.args.name.now c.in-Some.op c.in-Some.ensures.found c.index-as_slice-op.result at
    c.name_positions.result c.name_positions.ensures c.if-name_positions-ne1.false c.if-operator-phylum.false
