use Rattle.psg_completions.proofs.Law.{seen_or_possible, shown_or_possible}
use Rattle.psg_completions.proofs.Relating.{shown_by_rows}
use Rattle.psg_completions.proofs.laws.seen_values.Goals as goal

pub returns-clause-observed : goal.returns-clause-observed
returns-clause-observed c = seen_or_possible c.args.definition.now c.requires.sound c.requires.rows

pub returns-clause-shown : goal.returns-clause-shown
returns-clause-shown c = shown_or_possible c.args.definition.now c.requires.sound c.requires.rows

pub returns-clause-relations : goal.returns-clause-relations
returns-clause-relations c = shown_by_rows c.args.definition.now c.requires.sound c.requires.rows
