use Rattle.std.proofs.Common.{◌≡◌, map, take}
use Rattle.std.specs.Prelude.{string_bytes}
use Rattle.psg_session.specs.Answers.{row_line}
use Rattle.psg_session.proofs.questions.rows_lines.Given as goal

abbrev pub invariant-loop-row : goal.invariant-loop-row
invariant-loop-row l =
    map string_bytes l.lines.items ≡ map (row_line l.sig l.names) (take l.row-index l.rows)
