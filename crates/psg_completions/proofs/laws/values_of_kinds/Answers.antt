use Rattle.psg_completions.proofs.Law.{row_or_tree}
use Rattle.psg_completions.proofs.laws.values_of_kinds.Goals as goal

pub returns : goal.returns
returns c = row_or_tree c.args.definition.now c.requires.sound c.requires.rows
