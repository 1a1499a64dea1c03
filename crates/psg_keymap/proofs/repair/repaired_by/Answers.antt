use Rattle.std.proofs.Common.{arith}
use Rattle.psg_keymap.proofs.RepairLaws.{formed_repaired, no_more_work}
use Rattle.psg_keymap.proofs.repair.repaired_by.Goals as goal

pub noted-requires : goal.noted-requires
noted-requires g c = record {
  sound = c.requires.sound;
  tables = c.requires.tables;
  formed = formed_repaired c.args.definition.now c.args.tree.now c.args.found.now c.requires.found c.requires.formed;
}

pub returns-clause-ticks : goal.returns-clause-ticks
returns-clause-ticks g c =
    let less = no_more_work c.args.definition.now c.args.tree.now c.args.found.now c.requires.found in
    omega (arith, less, c.in_ok-note.ensures.ticks)

pub returns-in_err-note-clause-ticks : goal.returns-in_err-note-clause-ticks
returns-in_err-note-clause-ticks g c =
    let less = no_more_work c.args.definition.now c.args.tree.now c.args.found.now c.requires.found in
    omega (arith, less, c.in_err-note.ensures.ticks)
