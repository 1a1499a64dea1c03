use Rattle.std.proofs.Common.{◌≡◌, ◌++◌, map, drop}
use Rattle.std.specs.Prelude.{string_bytes}
use Rattle.psg_run.specs.Windowed.{labelled}
use Rattle.psg_run.proofs.window_texts.push_lines.Given as goal

abbrev pub invariant-loop-line : goal.invariant-loop-line
invariant-loop-line l =
    l.text.items ++ labelled l.label (map string_bytes (drop l.line-index l.lines)) ≡ l.initial.text.items ++ labelled l.label (map string_bytes l.lines)
