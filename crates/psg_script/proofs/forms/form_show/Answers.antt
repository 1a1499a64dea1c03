use Rattle.std.proofs.Common.{sym, ◌∙◌}
use Rattle.std.proofs.lemmas.Bool.{true≢false}
use Rattle.psg_script.proofs.FormLemmas.{none_show, some_show}
use Rattle.psg_script.proofs.forms.form_show.Goals as goal

pub returns-then-is_end : goal.returns-then-is_end
returns-then-is_end c = some_show c.args.behind.now (c.is_end.ensures.0 c.if-is_end.true)

pub returns-else-is_end : goal.returns-else-is_end
returns-else-is_end c = none_show c.args.behind.now (λ f. true≢false (sym (c.is_end.ensures.1 f) ∙ c.if-is_end.false))
