use Rattle.psg_script.proofs.FormLemmas.{words_remove, none_remove_number, none_remove_place, some_remove}
use Rattle.psg_script.proofs.forms.form_remove.Goals as goal

pub returns-in_default : goal.returns-in_default
returns-in_default c = words_remove _ c.args.behind.now c.words_behind.ensures c.in_default.not-Two

pub returns-in_default-read_number : goal.returns-in_default-read_number
returns-in_default-read_number c = none_remove_number _ _ c.args.behind.now c.in-Two.ensures c.in_default-read_number.ensures

pub returns-in_default-2 : goal.returns-in_default-2
returns-in_default-2 c = none_remove_place _ _ c.args.behind.now c.in-Two.ensures (rw c.in_default-2.is at c.in_ok-at.ensures)

pub returns : goal.returns
returns c = some_remove _ _ c.args.behind.now c.in-Two.ensures _ _ c.in-Some.ensures (rw c.in-Some-2.is at c.in_ok-at.ensures)
