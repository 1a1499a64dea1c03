use Rattle.psg_script.proofs.FormLemmas.{words_menu, none_menu, some_menu, none_menu_number, none_menu_place, some_menu_number}
use Rattle.psg_script.proofs.forms.form_menu.Goals as goal

pub returns-in_default : goal.returns-in_default
returns-in_default c = words_menu _ c.args.behind.now c.words_behind.ensures c.in_default.not-One c.in_default.not-Two

pub returns-in_default-2 : goal.returns-in_default-2
returns-in_default-2 c = none_menu _ c.args.behind.now c.in-One.ensures (rw c.in_default-2.is at c.in_ok-at-in-One.ensures)

pub returns-in-Some : goal.returns-in-Some
returns-in-Some c = some_menu _ c.args.behind.now c.in-One.ensures _ (rw c.in-Some.is at c.in_ok-at-in-One.ensures)

pub returns-in_default-read_number : goal.returns-in_default-read_number
returns-in_default-read_number c = none_menu_number _ _ c.args.behind.now c.in-Two.ensures c.in_default-read_number.ensures

pub returns-in_default-3 : goal.returns-in_default-3
returns-in_default-3 c = none_menu_place _ _ c.args.behind.now c.in-Two.ensures (rw c.in_default-3.is at c.in_ok-at-in-Two.ensures)

pub returns-in-Some-2 : goal.returns-in-Some-2
returns-in-Some-2 c = some_menu_number _ _ c.args.behind.now c.in-Two.ensures _ _ c.in-Some-read_number.ensures (rw c.in-Some-2.is at c.in_ok-at-in-Two.ensures)
