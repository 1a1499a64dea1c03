use Rattle.std.proofs.Common.{◌≡◌, ◌-◌, ◌++◌, List, ℕ, length, take, ap, ◌∙◌, subst}
use Rattle.std.specs.Prelude.{IsUtf8}
use Rattle.psg_comments.specs.Blanking.{IsBlanked}
use Rattle.psg_run.specs.Without.{is_text, mark_of}
use Rattle.psg_run.proofs.without.blank_file.Goals as goal

pub returns : goal.returns
returns c =
    let found = c.in_ok-blanked.field-0 in
    let own : c.as_slice.result.now ≡ found.bytes.items = c.as_slice.ensures.value in
    is_text found.bytes.items (subst IsUtf8 c.unmarked-rest.ensures c.in-Ok.ensures.cases.1)
    (subst (λ t. IsBlanked c.args.lexis.now c.args.token.now t found.comments.items found.bytes.items)
    (c.in-Ok.ensures.cases.0 ∙ c.unmarked-rest.ensures) c.in_ok-blanked.ensures)
    (c.in_ok-extend_from_slice.ensures.items
    ∙ ap (λ l. l ++ c.as_slice.result.now)
    (c.in_ok-own.ensures.items ∙ c.split_at.ensures.front
    ∙ ap (λ (r : List ℕ). take (length c.args.bytes.now - length r) c.args.bytes.now) c.unmarked-rest.ensures)
    ∙ ap (λ l. mark_of c.args.bytes.now ++ l) own)
