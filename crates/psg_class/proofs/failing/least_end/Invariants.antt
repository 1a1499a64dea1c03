use Rattle.psg_class.specs.Failing.{IsLeastIf, ends}
use Rattle.psg_class.proofs.failing.least_end.Given as goal

abbrev pub invariant-loop-column : goal.invariant-loop-column
invariant-loop-column l = IsLeastIf l.vocabulary.base l.vocabulary.words.items (ends l.rows l.sets l.separators l.list) l.column l.best
