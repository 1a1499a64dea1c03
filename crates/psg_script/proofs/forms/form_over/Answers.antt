use Rattle.psg_script.proofs.FormLemmas.{words_over, none_over, some_over}
use Rattle.psg_script.proofs.forms.form_over.Goals as goal

pub returns-in_default : goal.returns-in_default
returns-in_default c = words_over c.args.behind.now c.in_default.ensures.none

pub returns-in_default-2 : goal.returns-in_default-2
returns-in_default-2 c = none_over _ _ c.args.behind.now c.in-Some.ensures.some (rw c.in_default-2.is at c.in_ok-at.ensures)

pub returns : goal.returns
returns c = rw c.in_ok-text.ensures (some_over _ _ c.args.behind.now _ c.in-Some.ensures.some (rw c.in-Some-2.is at c.in_ok-at.ensures))
