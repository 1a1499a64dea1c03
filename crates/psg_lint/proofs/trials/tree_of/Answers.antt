use Rattle.psg_lint.proofs.WrongLaws.{is_sound}
use Rattle.psg_lint.proofs.trials.tree_of.Goals as goal

pub kept_part-requires-clause-sound : goal.kept_part-requires-clause-sound
kept_part-requires-clause-sound c = is_sound c.args.wrong.judged c.requires.wrong.judged

pub kept_part-requires-clause-tables : goal.kept_part-requires-clause-tables
kept_part-requires-clause-tables c = c.requires.wrong.judged.tables
