use Rattle.psg_grammar.proofs.FillingLaws.{keeps_paths}
use Rattle.psg_grammar.proofs.laws.filled_paths.Goals as goal

pub returns : goal.returns
returns c = keeps_paths c.args._definition.now
