use Rattle.psg_asking.proofs.AskedLaws.{asked_itself, known_by}
use Rattle.psg_asking.proofs.asked.asked_at.Goals as goal

pub returns-then-wrong-clause-asked : goal.returns-then-wrong-clause-asked
returns-then-wrong-clause-asked c =
    c.in_ok-asked.ensures.asked c.args.known.program.language.now c.args.known.program.kind c.args.known.program.note.now
    (known_by _ _ _ _ _ _ c.if-wrong.true c.requires)

pub returns-then-wrong-clause-program : goal.returns-then-wrong-clause-program
returns-then-wrong-clause-program c =
    c.in_ok-asked.ensures.program c.args.known.program.language.now c.args.known.program.kind
    c.args.known.program.note.now (known_by _ _ _ _ _ _ c.if-wrong.true c.requires)

pub returns-clause-asked : goal.returns-clause-asked
returns-clause-asked c =
    asked_itself _ _ c.args.spot.now c.in_ok-same.same c.in_ok-same.ensures (c.requires.right c.if-wrong.false)

pub returns-clause-program : goal.returns-clause-program
returns-clause-program c = c.requires.program
