use Rattle.psg_script.proofs.FormLemmas.{none_close, some_close}
use Rattle.psg_script.proofs.forms.form_close.Goals as goal

pub returns-in_default : goal.returns-in_default
returns-in_default c = none_close c.args.behind.now (rw c.in_default.is at c.in_ok-at.ensures)

pub returns : goal.returns
returns c = some_close c.args.behind.now _ (rw c.in-Some.is at c.in_ok-at.ensures)
