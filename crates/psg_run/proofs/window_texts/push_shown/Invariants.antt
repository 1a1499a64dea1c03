use Rattle.std.proofs.Common.{◌≡◌, ◌++◌, length}
use Rattle.psg_session.specs.Printing.{lines_in}
use Rattle.psg_run.specs.Windowed.{labelled}
use Rattle.psg_run.proofs.window_texts.push_shown.Given as goal

abbrev pub invariant-loop-end : goal.invariant-loop-end
invariant-loop-end l =
    l.text.items ++ labelled l.label (lines_in l.rest) ≡ l.initial.text.items ++ labelled l.label (lines_in l.shown)

abbrev pub decreases-loop-end : goal.decreases-loop-end
decreases-loop-end l = length l.rest
