use Rattle.std.proofs.Common.{sym, ◌∙◌, subst}
use Rattle.serde_json.specs.View.{view}
use Rattle.psg_completing.specs.Offering.{IsCompletion}
use Rattle.psg_server.specs.Completing.{IsCompletionValue, completed_in_comment, completed_there}
use Rattle.psg_server.proofs.completing.completed_at.Goals as goal

pub returns-then-is_commenting : goal.returns-then-is_commenting
returns-then-is_commenting g c =
    completed_in_comment (sym c.is_commenting.ensures ∙ c.if-is_commenting.true) c.null_value.ensures

pub returns : goal.returns
returns g c =
    completed_there c.in_ok-completion.completion (sym c.is_commenting.ensures ∙ c.if-is_commenting.false)
    (subst (λ t. IsCompletion c.args.language.now c.args.kind t c.args.byte c.in_ok-completion.completion)
    c.as_slice-bytes.ensures.value c.in_ok-completion.ensures)
    (subst (λ put. IsCompletionValue c.args.page.now.encoding c.args.page.now.text.now put (view c.in_ok-value.value))
    c.in_ok-put.ensures c.in_ok-value.ensures)
