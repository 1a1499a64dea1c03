use Rattle.psg_script.proofs.FormLemmas.{none_goto, some_goto}
use Rattle.psg_script.proofs.forms.form_goto.Goals as goal

pub returns-in_default : goal.returns-in_default
returns-in_default c = none_goto c.args.behind.now (rw c.in_default.is at c.in_ok-at.ensures)

pub returns : goal.returns
returns c = some_goto c.args.behind.now _ (rw c.in-Some.is at c.in_ok-at.ensures)
