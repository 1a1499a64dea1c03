use Rattle.std.proofs.Common.{◌≡◌, ◌++◌, drop, map}
use Rattle.psg_scope.specs.Headers.{keys}
use Rattle.psg_session.specs.Answers.{key_text}
use Rattle.psg_session.proofs.questions.labels.Given as goal

abbrev pub invariant-loop-column : goal.invariant-loop-column
invariant-loop-column l = l.labels.items ++ map (key_text l.definition) (keys (drop l.column-index l.names)) ≡ map (key_text l.definition) (keys l.names)
