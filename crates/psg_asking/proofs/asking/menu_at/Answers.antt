use Rattle.psg_cache.specs.Annotated.{tree_in}
use Rattle.psg_asking.specs.Asked.{menu_of}
use Rattle.psg_asking.specs.Told.{words_told}
use Rattle.psg_asking.proofs.AskedLaws.{program_of, told_in, told_none}
use Rattle.psg_asking.proofs.asking.menu_at.Goals as goal

pub menu_in-requires : goal.menu_in-requires
menu_in-requires g c = program_of _ _ c.in_ok-found.found c.in-Some.asked c.in-Some.is c.in_ok-found.ensures.program

pub returns-in_ok-read-in-Some-clause-told : goal.returns-in_ok-read-in-Some-clause-told
returns-in_ok-read-in-Some-clause-told g c =
    told_in _ _ (tree_in c.args.known.program.note.now) c.args.spot.now menu_of words_told c.in_ok-found.found
    c.in_ok-found.ensures.asked c.in-Some.asked c.in-Some.is _ c.in_ok-read-in-Some.ensures.told

pub returns-in-None-clause-told : goal.returns-in-None-clause-told
returns-in-None-clause-told g c =
    told_none _ _ (tree_in c.args.known.program.note.now) c.args.spot.now menu_of words_told c.in_ok-found.found
    c.in_ok-found.ensures.asked c.in-None.is
