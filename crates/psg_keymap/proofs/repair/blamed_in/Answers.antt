use Rattle.psg_keymap.proofs.RepairLaws.{blamed_is}
use Rattle.psg_keymap.proofs.repair.blamed_in.Goals as goal

pub returns-in-Ok-clause-found : goal.returns-in-Ok-clause-found
returns-in-Ok-clause-found g c =
    blamed_is c.args.definition.now c.args.tree.now c.in-Ok.found (c.in-Ok.ensures.completable c.requires.rows)

pub returns-in-Err-clause-found : goal.returns-in-Err-clause-found
returns-in-Err-clause-found g c = c.not_known.ensures c.args.definition.now c.args.tree.now c.in-Err.ensures.fault
