use Rattle.std.proofs.Common.{◌∙◌}
use Rattle.psg_eval.proofs.starts.ListStart.end.Goals as goal

pub returns-clause-unfinished : goal.returns-clause-unfinished
returns-clause-unfinished c = λ e. c.as_ref.ensures.value ∙ c.either.ensures.here e

pub returns-clause-finished : goal.returns-clause-finished
returns-clause-finished c = λ e. c.as_ref.ensures.value ∙ c.either.ensures.other e
