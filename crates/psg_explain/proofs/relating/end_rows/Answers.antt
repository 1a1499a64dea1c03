use Rattle.psg_grammar.specs.Fragments.{ending}
use Rattle.psg_explain.proofs.RelatingLaws.{end_own, known_summary, not_wide, usual_known}
use Rattle.psg_explain.proofs.relating.end_rows.Goals as goal

pub known-requires : goal.known-requires
known-requires g c = not_wide c.args.language.now.definition (ending c.args.list c.args.unfinished) c.requires.light c.eval_end-answer.result c.eval_end-answer.ensures.answer

pub returns-clause-rows : goal.returns-clause-rows
returns-clause-rows g c =
    end_own c.args.language.now.definition c.args.list c.args.unfinished c.in_ok-whole.whole c.in_ok-rows.rows.items
    (known_summary c.args.language.now.definition (ending c.args.list c.args.unfinished) c.eval_end-answer.result c.in_ok-whole.whole c.eval_end-answer.ensures.answer c.in_ok-whole.ensures) c.in_ok-rows.ensures

pub returns-clause-whole : goal.returns-clause-whole
returns-clause-whole g c = (
  known_summary c.args.language.now.definition (ending c.args.list c.args.unfinished) c.eval_end-answer.result c.in_ok-whole.whole c.eval_end-answer.ensures.answer c.in_ok-whole.ensures,
  usual_known c.args.language.now.definition c.eval_end-answer.result c.in_ok-whole.whole c.eval_end-answer.ensures.summary c.in_ok-whole.ensures,
)
