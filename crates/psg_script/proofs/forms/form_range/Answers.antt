use Rattle.psg_script.proofs.FormLemmas.{words_range, none_range_start, none_range_end, some_range}
use Rattle.psg_script.proofs.forms.form_range.Goals as goal

pub returns-in_default : goal.returns-in_default
returns-in_default c = words_range c.args.behind.now c.in_default.ensures.none

pub returns-in_default-read_number : goal.returns-in_default-read_number
returns-in_default-read_number c = none_range_start _ _ _ c.args.behind.now c.in-Some.ensures.some c.in_default-read_number.ensures

pub returns-in_default-read_number-2 : goal.returns-in_default-read_number-2
returns-in_default-read_number-2 c = none_range_end _ _ _ c.args.behind.now c.in-Some.ensures.some c.in_default-read_number-2.ensures

pub returns : goal.returns
returns c = rw c.in_ok-text.ensures (some_range _ _ _ c.args.behind.now c.in-Some.ensures.some _ _ c.in-Some-read_number.ensures c.in-Some-read_number-2.ensures)
