use Rattle.psg_class.specs.Failing.{IsLeastIf}
use Rattle.psg_class.specs.Grids.{is_set}
use Rattle.psg_class.proofs.failing.least.Given as goal

abbrev pub invariant-loop-column : goal.invariant-loop-column
invariant-loop-column l = IsLeastIf l.vocabulary.base l.vocabulary.words.items (is_set l.grid l.row) l.column l.best
