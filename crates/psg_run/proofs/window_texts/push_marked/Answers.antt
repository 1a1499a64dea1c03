use Rattle.std.proofs.Common.{◌++◌, ◌∷◌, [], refl, ap, ◌∙◌}
use Rattle.psg_session.specs.Marked.{mark_text}
use Rattle.psg_session.specs.Printing.{lines_in}
use Rattle.psg_session.specs.Views.{mark_of}
use Rattle.psg_run.specs.Windowed.{labelled}
use Rattle.psg_run.proofs.Labels.{next_pushed}
use Rattle.psg_run.proofs.window_texts.push_marked.Goals as goal

pub returns : goal.returns
returns c =
    next_pushed c.args.label.now c.args.text.now.items c.push_shown.new.text.items c.push_one.new.text.items
    (lines_in c.args.shown.now) (mark_text (mark_of c.args.mark) ∷ [])
    (c.in_ok-push_shown.ensures ∙ ap (λ s. c.args.text.now.items ++ labelled c.args.label.now (lines_in s))
    (c.as_bytes.ensures.value ∙ c.as_str.ensures))
    (c.in_ok-push_one.ensures (mark_text (mark_of c.args.mark)) refl)
