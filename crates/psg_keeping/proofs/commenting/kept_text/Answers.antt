use Rattle.std.proofs.Common.{◌≡◌, true≢false, sym, ap, subst, ◌∙◌}
use Rattle.psg_comments.specs.Blanking.{IsBlanked}
use Rattle.psg_commented.specs.Keeping.{KeepsBy, other_text}
use Rattle.psg_keeping.proofs.commenting.kept_text.Goals as goal

pub returns-then-not-kept-clause-none : goal.returns-then-not-kept-clause-none
returns-then-not-kept-clause-none c =
    let comments = c.in_ok-blanked.blanked.comments.items in
    let own = c.in_ok-blanked.blanked.bytes.items in
    let one : c.as_str.result.now ≡ c.args.bytes.items = c.as_str.ensures.value ∙ ap (λ v. v.items) c.in-Ok.ensures.ok in
    let two : c.as_str-2.result.now ≡ c.args.bytes.items =
    c.as_str-2.ensures.value ∙ ap (λ v. v.items) c.in-Ok.ensures.ok in
    other_text comments own
    (subst (λ t. IsBlanked c.args.lexis.now c.args.token.now t comments own) one c.in_ok-blanked.ensures)
    (λ by. true≢false (sym (c.in_ok-kept.ensures.1
    (subst (λ t. KeepsBy c.args.lexis.now c.args.shown.now c.args.notes.now t comments own) (sym two) by))
    ∙ c.if-not-kept.true))
