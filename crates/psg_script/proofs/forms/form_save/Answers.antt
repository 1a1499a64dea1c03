use Rattle.psg_script.proofs.FormLemmas.{words_save, none_save, some_save}
use Rattle.psg_script.proofs.forms.form_save.Goals as goal

pub returns-in_default : goal.returns-in_default
returns-in_default c = words_save _ c.args.behind.now c.words_behind.ensures c.in_default.not-Two

pub returns-in_default-2 : goal.returns-in_default-2
returns-in_default-2 c = none_save _ _ c.args.behind.now c.in-Two.ensures (rw c.in_default-2.is at c.in_ok-at.ensures)

pub returns : goal.returns
returns c = some_save _ _ c.args.behind.now c.in-Two.ensures _ _ (rw c.in-Some.is at c.in_ok-at.ensures)
