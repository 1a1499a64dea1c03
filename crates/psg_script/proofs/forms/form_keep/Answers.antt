use Rattle.psg_script.proofs.FormLemmas.{words_keep, none_keep_name, none_keep_file, some_keep}
use Rattle.psg_script.proofs.forms.form_keep.Goals as goal

pub returns-in_default : goal.returns-in_default
returns-in_default c = words_keep _ c.args.behind.now c.words_behind.ensures c.in_default.not-Two

pub returns-in_default-2 : goal.returns-in_default-2
returns-in_default-2 c = none_keep_name _ _ c.args.behind.now c.in-Two.ensures (rw c.in_default-2.is at c.in_ok-name.ensures)

pub returns-in_default-3 : goal.returns-in_default-3
returns-in_default-3 c = none_keep_file _ _ c.args.behind.now c.in-Two.ensures (rw c.in_default-3.is at c.in_ok-file.ensures)

pub returns : goal.returns
returns c = some_keep _ _ c.args.behind.now c.in-Two.ensures _ _ (rw c.in-Some.is at c.in_ok-name.ensures) (rw c.in-Some-2.is at c.in_ok-file.ensures)
