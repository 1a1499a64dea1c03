use Rattle.psg_completions.proofs.Law.{open_or_completable}
use Rattle.psg_completions.proofs.Relating.{related_or_completable}
use Rattle.psg_completions.proofs.MarkLaws.{marked_by_completions}
use Rattle.psg_completions.proofs.laws.open_fragments.Goals as goal

pub returns-clause-open_trees : goal.returns-clause-open_trees
returns-clause-open_trees c = open_or_completable c.args.definition.now c.requires.sound c.requires.rows

pub returns-clause-relations : goal.returns-clause-relations
returns-clause-relations c = related_or_completable c.args.definition.now c.requires.sound c.requires.rows

pub returns-clause-marks : goal.returns-clause-marks
returns-clause-marks c = marked_by_completions c.args.definition.now c.requires.sound c.requires.rows
