use Rattle.psg_script.proofs.FormLemmas.{words_insert, none_insert_number, none_insert, some_insert}
use Rattle.psg_script.proofs.forms.form_insert.Goals as goal

pub returns-in_default : goal.returns-in_default
returns-in_default c = words_insert c.args.behind.now c.in_default.ensures.none

pub returns-in_default-read_number : goal.returns-in_default-read_number
returns-in_default-read_number c = none_insert_number _ _ _ _ c.args.behind.now c.in-Some.ensures.some c.in_default-read_number.ensures

pub returns-in_default-2 : goal.returns-in_default-2
returns-in_default-2 c = none_insert _ _ _ _ c.args.behind.now c.in-Some.ensures.some (rw c.in_default-2.is at c.in_ok-at.ensures)

pub returns : goal.returns
returns c = rw c.in_ok-args.ensures (some_insert _ _ _ _ c.args.behind.now c.in-Some.ensures.some _ _ _ c.in-Some-read_number.ensures (rw c.in-Some-2.is at c.in_ok-at.ensures))
