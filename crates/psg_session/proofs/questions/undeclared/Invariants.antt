use Rattle.std.proofs.Common.{◌≡◌, ◌++◌, drop}
use Rattle.psg_session.specs.Views.{names_without}
use Rattle.psg_session.proofs.questions.undeclared.Given as goal

abbrev pub invariant-loop-column : goal.invariant-loop-column
invariant-loop-column l = l.free.items ++ names_without l.definition (drop l.column-index l.names) ≡ names_without l.definition l.names
