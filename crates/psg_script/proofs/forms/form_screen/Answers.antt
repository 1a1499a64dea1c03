use Rattle.psg_script.proofs.FormLemmas.{words_screen, none_screen_top, none_screen_left, none_screen_rows, none_screen_cols, some_screen}
use Rattle.psg_script.proofs.forms.form_screen.Goals as goal

pub returns-in_default : goal.returns-in_default
returns-in_default c = words_screen _ c.args.behind.now c.words_behind.ensures c.in_default.not-Four

pub returns-in_err-top : goal.returns-in_err-top
returns-in_err-top c = rw c.from_residual.ensures (none_screen_top _ _ _ _ c.args.behind.now c.in-Four.ensures c.in_err-top.ensures)

pub returns-in_err-left : goal.returns-in_err-left
returns-in_err-left c = rw c.from_residual-in_err-left.ensures (none_screen_left _ _ _ _ c.args.behind.now c.in-Four.ensures c.in_err-left.ensures)

pub returns-in_err-rows : goal.returns-in_err-rows
returns-in_err-rows c = rw c.from_residual-in_err-rows.ensures (none_screen_rows _ _ _ _ c.args.behind.now c.in-Four.ensures c.in_err-rows.ensures)

pub returns-in_err-cols : goal.returns-in_err-cols
returns-in_err-cols c = rw c.from_residual-in_err-cols.ensures (none_screen_cols _ _ _ _ c.args.behind.now c.in-Four.ensures c.in_err-cols.ensures)

pub returns : goal.returns
returns c = some_screen _ _ _ _ c.args.behind.now c.in-Four.ensures _ _ _ _ c.in_ok-top.ensures c.in_ok-left.ensures c.in_ok-rows.ensures c.in_ok-cols.ensures
