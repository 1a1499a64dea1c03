use Rattle.std.proofs.Common.{◌≡◌, ◌++◌, drop}
use Rattle.psg_run.specs.Windowed.{labelled}
use Rattle.psg_run.proofs.window_texts.push_seen.Given as goal

abbrev pub invariant-loop-line : goal.invariant-loop-line
invariant-loop-line l =
    l.text.items ++ labelled l.label (drop l.line-index l.lines) ≡ l.initial.text.items ++ labelled l.label (l.lines)
