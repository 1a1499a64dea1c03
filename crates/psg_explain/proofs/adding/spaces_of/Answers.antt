use Rattle.psg_eval.proofs.SpaceReads.{element_below, list_read, list_there, spaces_read}
use Rattle.psg_explain.proofs.adding.spaces_of.Goals as goal

pub bounds-all-kind : goal.bounds-all-kind
bounds-all-kind c =
    let def = c.args.known.definition.now in
    let are = c.spaces-all.ensures def c.requires.tables in
    let (own, found) = list_there def c.requires.sound c.spaces-all.result.now are c.args.list c.requires.there in
    let same = list_read def.lists c.as_slice.result.now c.args.list own c.index-as_slice-list.result c.as_slice.ensures found c.index-as_slice-list.is in
    element_below def c.requires.sound c.spaces-all.result.now are c.args.list own c.index-as_slice-list.result found same

pub returns : goal.returns
returns c =
    let def = c.args.known.definition.now in
    let are = c.spaces-all.ensures def c.requires.tables in
    let (own, found) = list_there def c.requires.sound c.spaces-all.result.now are c.args.list c.requires.there in
    let same = list_read def.lists c.as_slice.result.now c.args.list own c.index-as_slice-list.result c.as_slice.ensures found c.index-as_slice-list.is in
    spaces_read def c.requires.sound c.spaces-all.result.now are c.args.list own c.index-as_slice-list.result found same c.index-all-kind.result c.index-all-kind.is
    c.as_slice-2.result.now c.as_slice-2.ensures.value
