use Rattle.std.proofs.Common.{◌≡◌, ◌++◌, List, ℕ, ap, ◌∙◌, subst}
use Rattle.psg_comments.specs.Blanking.{IsBlanked}
use Rattle.psg_server.specs.Judging.{mark_of}
use Rattle.psg_server.proofs.judging.blank_text.Goals as goal

pub returns : goal.returns
returns c =
    let found = c.in_ok-blanked.field-0 in
    record {
      rest = found.bytes.items;
      is_blanked =
          subst (λ t. IsBlanked c.args.lexis.now c.args.token.now t found.comments.items found.bytes.items)
          c.unmarked_text-rest.ensures c.in_ok-blanked.ensures;
      is =
          c.in_ok-extend_from_slice.ensures.items
          ∙ ap (λ l. l ++ c.as_slice.result.now)
          (c.in_ok-bytes.ensures.items ∙ (c.mark_of-front.ensures ∙ ap mark_of c.as_bytes.ensures.value))
          ∙ ap (λ l. mark_of c.args.text.now ++ l) c.as_slice.ensures.value;
    }
