use Rattle.std.proofs.Common.{◌≡◌, ◌++◌, drop}
use Rattle.std.specs.Prelude.{string_bytes}
use Rattle.psg_session.specs.Answers.{more_names}
use Rattle.psg_session.proofs.questions.names_line.Given as goal

abbrev pub invariant-loop-name : goal.invariant-loop-name
invariant-loop-name l =
    string_bytes l.text ++ more_names (drop l.name-index l.rest) ≡ string_bytes l.initial.text ++ more_names l.rest
