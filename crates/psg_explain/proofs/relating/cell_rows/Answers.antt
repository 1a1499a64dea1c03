use Rattle.std.proofs.Common.{◌∙◌, ap, map}
use Rattle.psg_grammar.specs.Fragments.{cell}
use Rattle.psg_explain.specs.Relations.{rel_of}
use Rattle.psg_explain.proofs.RelatingLaws.{known_rows, known_summary, not_wide, not_wide_steps, usual_known}
use Rattle.psg_explain.proofs.relating.cell_rows.Goals as goal

pub known_steps-requires : goal.known_steps-requires
known_steps-requires g c =
    let (e, r, of_e, of_r, light) = c.requires.light in
    not_wide_steps c.args.language.now.definition (cell c.args.list e r) light c.cell_steps-answer.result (c.cell_steps-answer.ensures.answer e r of_e of_r)

pub known-requires : goal.known-requires
known-requires g c =
    let (e, r, of_e, of_r, light) = c.requires.light in
    not_wide c.args.language.now.definition (cell c.args.list e r) light c.eval_cell-summary.result (c.eval_cell-summary.ensures.answer e r of_e of_r)

pub returns-clause-rows : goal.returns-clause-rows
returns-clause-rows g c = λ e r of_e of_r.
    known_rows c.args.language.now.definition (cell c.args.list e r) c.cell_steps-answer.result c.in_ok-all.all c.in_ok-rows.rows.items (c.cell_steps-answer.ensures.answer e r of_e of_r) c.in_ok-all.ensures
    (c.in_ok-rows.ensures ∙ ap (map rel_of) c.as_slice.ensures.value)

pub returns-clause-whole : goal.returns-clause-whole
returns-clause-whole g c = λ e r of_e of_r. (
  known_summary c.args.language.now.definition (cell c.args.list e r) c.eval_cell-summary.result c.in_ok-whole.whole (c.eval_cell-summary.ensures.answer e r of_e of_r) c.in_ok-whole.ensures,
  usual_known c.args.language.now.definition c.eval_cell-summary.result c.in_ok-whole.whole c.eval_cell-summary.ensures.summary c.in_ok-whole.ensures,
)
