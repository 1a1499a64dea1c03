use Rattle.psg_cache.specs.Annotated.{tree_in}
use Rattle.psg_asking.specs.Asked.{names_of, there}
use Rattle.psg_asking.specs.Told.{names_told, read_of}
use Rattle.psg_asking.proofs.AskedLaws.{names_read, program_of, told_in, told_none}
use Rattle.psg_asking.proofs.asking.names_at.Goals as goal

pub names_in-requires : goal.names_in-requires
names_in-requires g c = program_of _ _ c.in_ok-found.found c.in-Some.asked c.in-Some.is c.in_ok-found.ensures.program

pub returns-in_ok-own-in-Some-clause-told : goal.returns-in_ok-own-in-Some-clause-told
returns-in_ok-own-in-Some-clause-told g c =
    let tree = tree_in c.args.known.program.note.now in
    told_in c.args.known.program.language.now c.args.known.program.kind tree c.args.spot.now (names_of c.args.op)
    (names_told tree) c.in_ok-found.found c.in_ok-found.ensures.asked c.in-Some.asked c.in-Some.is
    (read_of c.in_ok-own-in-Some.own)
    (names_read c.args.known.program.language.now c.args.known.program.kind (names_of c.args.op) tree
    c.tree-tree.result.now (there (tree_in c.in-Some.asked.note.now) c.in-Some.asked.spot)
    (read_of c.in_ok-read-in-Some.read) (read_of c.in_ok-own-in-Some.own) c.in_ok-read-in-Some.ensures.told
    c.tree-tree.ensures c.in_ok-own-in-Some.ensures)

pub returns-in-None-clause-told : goal.returns-in-None-clause-told
returns-in-None-clause-told g c =
    let tree = tree_in c.args.known.program.note.now in
    told_none _ _ tree c.args.spot.now (names_of c.args.op) (names_told tree) c.in_ok-found.found
    c.in_ok-found.ensures.asked c.in-None.is
