use Rattle.psg_script.proofs.FormLemmas.{words_paste, none_paste, some_paste, none_paste_number, none_paste_placed, some_paste_number}
use Rattle.psg_script.proofs.forms.form_paste.Goals as goal

pub returns-in_default : goal.returns-in_default
returns-in_default c = words_paste _ c.args.behind.now c.words_behind.ensures c.in_default.not-Two c.in_default.not-Three

pub returns-in_default-2 : goal.returns-in_default-2
returns-in_default-2 c = none_paste _ _ c.args.behind.now c.in-Two.ensures (rw c.in_default-2.is at c.in_ok-at-in-Two.ensures)

pub returns-in-Some : goal.returns-in-Some
returns-in-Some c = some_paste _ _ c.args.behind.now c.in-Two.ensures _ _ (rw c.in-Some.is at c.in_ok-at-in-Two.ensures)

pub returns-in_default-read_number : goal.returns-in_default-read_number
returns-in_default-read_number c = none_paste_number _ _ _ c.args.behind.now c.in-Three.ensures c.in_default-read_number.ensures

pub returns-in_default-3 : goal.returns-in_default-3
returns-in_default-3 c = none_paste_placed _ _ _ c.args.behind.now c.in-Three.ensures (rw c.in_default-3.is at c.in_ok-at-in-Three.ensures)

pub returns-in-Some-2 : goal.returns-in-Some-2
returns-in-Some-2 c = some_paste_number _ _ _ c.args.behind.now c.in-Three.ensures _ _ _ c.in-Some-read_number.ensures (rw c.in-Some-2.is at c.in_ok-at-in-Three.ensures)
