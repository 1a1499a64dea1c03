use Rattle.psg_script.proofs.FormLemmas.{none_cut, some_cut}
use Rattle.psg_script.proofs.forms.form_cut.Goals as goal

pub returns-in_default : goal.returns-in_default
returns-in_default c = none_cut c.args.behind.now (rw c.in_default.is at c.in_ok-at.ensures)

pub returns : goal.returns
returns c = some_cut c.args.behind.now _ (rw c.in-Some.is at c.in_ok-at.ensures)
