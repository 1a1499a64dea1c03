use Rattle.std.proofs.Common.{subst}
use Rattle.psg_keymap.specs.Repairs.{IsBlamed}
use Rattle.psg_keymap.proofs.repair.repaired_if.Goals as goal

pub repaired_by-requires : goal.repaired_by-requires
repaired_by-requires g c = record {
  sound = c.requires.sound;
  tables = c.requires.tables;
  formed = c.requires.formed;
  found = subst (IsBlamed c.args.definition.now c.args.tree.now) c.in-Some.is c.requires.found;
}

pub returns-in_ok-repair-in-Some-clause-found : goal.returns-in_ok-repair-in-Some-clause-found
returns-in_ok-repair-in-Some-clause-found g c = record {
  found = c.in-Some.found;
  blamed = subst (IsBlamed c.args.definition.now c.args.tree.now) c.in-Some.is c.requires.found;
  repaired = c.in_ok-repair-in-Some.ensures.repair;
}

pub returns-in-None-clause-found : goal.returns-in-None-clause-found
returns-in-None-clause-found g c = subst (IsBlamed c.args.definition.now c.args.tree.now) c.in-None.is c.requires.found
