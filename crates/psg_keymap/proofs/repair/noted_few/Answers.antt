use Rattle.psg_keymap.proofs.repair.noted_few.Goals as goal

pub returns-in-Ok-clause-note : goal.returns-in-Ok-clause-note
returns-in-Ok-clause-note g c = (c.requires.few, c.in-Ok.ensures.note)

pub returns-in-Err-clause-note : goal.returns-in-Err-clause-note
returns-in-Err-clause-note g c =
    c.not_noted.ensures c.args.definition.now c.args.tree.now c.args.blamed c.in-Err.ensures.fault
