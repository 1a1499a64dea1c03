use Rattle.std.proofs.Common.{◌≡◌, ◌++◌, ◌+◌, sym, subst}
use Rattle.std.proofs.lemmas.List.{take_rest}
use Rattle.psg_session.specs.Printing.{lines_in}
use Rattle.psg_run.specs.Windowed.{labelled}
use Rattle.psg_run.proofs.Labels.{first_pushed, last_pushed}
use Rattle.psg_run.proofs.window_texts.push_shown.Goals as goal

pub loop-end-preserved : goal.loop-end-preserved
loop-end-preserved c =
    subst (λ r. c.push_line.new.text.items ++ labelled c.args.label.now (lines_in r)
    ≡ c.args.text.now.items ++ labelled c.args.label.now (lines_in c.args.shown.now))
    (sym (take_rest c.loop-end.rest.now (c.in-Some.end + 1)))
    (first_pushed c.args.label.now c.loop-end.text.items c.push_line.new.text.items c.loop-end.rest.now c.in-Some.end _
    (sym c.in-Some.ensures) c.in_ok-push_line.ensures c.loop-end.invariant)

pub returns : goal.returns
returns c =
    last_pushed c.args.label.now c.loop-end.text.items c.push_line-2.new.text.items c.loop-end.rest.now _
    (sym c.in_default.ensures) c.in_ok-push_line-2.ensures c.loop-end.invariant
