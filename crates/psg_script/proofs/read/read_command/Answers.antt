use Rattle.std.proofs.Common.{sym, ◌∙◌}
use Rattle.psg_script.specs.Keywords.{keyword_of}
use Rattle.psg_script.proofs.SameLemmas.{form_from_line, form_at, same_form}
use Rattle.psg_script.proofs.read.read_command.Goals as goal

pub returns-in_default-of-clause-err : goal.returns-in_default-of-clause-err
returns-in_default-of-clause-err c = (
  c.in-Ok.ensures.cases.1,
  λ other s.
      let found = form_from_line c.args.line.now c.split_word.result.0.now c.split_word.result.1.now (sym c.in-Ok.ensures.cases.0 ∙ c.split_word.ensures.parts) c.split_word.ensures.word c.split_word.ensures.behind other s in
      c.in_default-of.ensures.none (keyword_of other) found.0,
)

pub returns-in-Ok-Some-clause-only : goal.returns-in-Ok-Some-clause-only
returns-in-Ok-Some-clause-only c = λ other s.
    let here = form_at c.args.line.now c.split_word.result.0.now c.split_word.result.1.now c.in-Some.keyword (sym c.in-Ok.ensures.cases.0 ∙ c.split_word.ensures.parts) c.split_word.ensures.word c.split_word.ensures.behind c.in-Some.ensures.some other s in
    same_form c.in-Some.keyword other c.in-Ok-Some.command c.split_word.result.1.now here (rw c.in-Ok-Some.field-0-is at c.in-Ok-Some.ensures)
