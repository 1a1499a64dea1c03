use Rattle.psg_eval.proofs.SpaceReads.{list_read, list_there, spaces_read}
use Rattle.psg_eval.proofs.starts.spaces_of.Goals as goal

pub returns : goal.returns
returns c =
    let def = c.args.definition.now in
    let (own, found) = list_there def c.requires.sound c.args.spaces.now c.requires.spaces c.args.list c.requires.there in
    let same = list_read def.lists c.as_slice.result.now c.args.list own c.index-as_slice-list.result c.as_slice.ensures found c.index-as_slice-list.is in
    spaces_read def c.requires.sound c.args.spaces.now c.requires.spaces c.args.list own c.index-as_slice-list.result found same c.index-spaces-kind.result c.index-spaces-kind.is
    c.as_slice-2.result.now c.as_slice-2.ensures.value
