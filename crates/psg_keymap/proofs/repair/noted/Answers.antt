use Rattle.std.proofs.Common.{inl, sym, ◌∙◌}
use Rattle.std.proofs.lemmas.Bool.{ltb-false, ltb-true}
use Rattle.psg_places.specs.Blame.{most_blamed}
use Rattle.psg_keymap.proofs.repair.noted.Goals as goal

pub noted_few-requires : goal.noted_few-requires
noted_few-requires g c = record {
  sound = c.requires.sound;
  tables = c.requires.tables;
  formed = c.requires.formed;
  few = ltb-true c.args.blamed most_blamed (sym c.is_few-few.ensures ∙ c.if-few.true);
}

pub returns-clause-note : goal.returns-clause-note
returns-clause-note g c = inl (ltb-false c.args.blamed most_blamed (sym c.is_few-few.ensures ∙ c.if-few.false))
