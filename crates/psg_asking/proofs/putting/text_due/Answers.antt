use Rattle.psg_cache.specs.Annotated.{tree_in}
use Rattle.psg_asking.proofs.AskedLaws.{program_of}
use Rattle.psg_asking.proofs.PutLaws.{due_there, due_nowhere}
use Rattle.psg_asking.proofs.putting.text_due.Goals as goal

pub put_text-requires : goal.put_text-requires
put_text-requires g c = program_of _ _ c.in_ok-found.found c.in-Some.asked c.in-Some.is c.in_ok-found.ensures.program

pub returns-in_ok-due-in-Some-clause-text : goal.returns-in_ok-due-in-Some-clause-text
returns-in_ok-due-in-Some-clause-text g c =
    due_there c.args.known.program.language.now c.args.known.program.kind (tree_in c.args.known.program.note.now)
    c.args.printed.now.spans c.args.spot.now c.args.op.now c.args.args c.in_ok-found.found c.in_ok-found.ensures.asked
    c.in-Some.asked c.in-Some.is c.in_ok-text-in-Some.text c.in_ok-text-in-Some.ensures.text c.tree-tree.result.now
    c.tree-tree.ensures c.in_ok-due-in-Some.due c.in_ok-due-in-Some.ensures

pub returns-in-None-clause-text : goal.returns-in-None-clause-text
returns-in-None-clause-text g c =
    due_nowhere c.args.known.program.language.now c.args.known.program.kind (tree_in c.args.known.program.note.now)
    c.args.printed.now.spans c.args.spot.now c.args.op.now c.args.args c.in_ok-found.found c.in_ok-found.ensures.asked
    c.in-None.is
