use Rattle.psg_script.proofs.FormLemmas.{words_fetch, none_fetch, some_fetch}
use Rattle.psg_script.proofs.forms.form_fetch.Goals as goal

pub returns-in_default : goal.returns-in_default
returns-in_default c = words_fetch _ c.args.behind.now c.words_behind.ensures c.in_default.not-One

pub returns-in_default-2 : goal.returns-in_default-2
returns-in_default-2 c = none_fetch _ c.args.behind.now c.in-One.ensures (rw c.in_default-2.is at c.in_ok-file.ensures)

pub returns : goal.returns
returns c = some_fetch _ c.args.behind.now _ c.in-One.ensures (rw c.in-Some.is at c.in_ok-file.ensures)
