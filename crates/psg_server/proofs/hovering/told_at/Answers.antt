use Rattle.std.proofs.Common.{sym, ◌∙◌, subst}
use Rattle.psg_pointing.specs.Hovering.{IsHovered}
use Rattle.psg_server.specs.Hovering.{told_in_comment, told_there}
use Rattle.psg_server.proofs.hovering.told_at.Goals as goal

pub returns-then-is_comment : goal.returns-then-is_comment
returns-then-is_comment g c =
    told_in_comment c.byte_of-byte.result c.byte_of-byte.ensures
    (sym c.is_comment.ensures ∙ c.if-is_comment.true) c.null_value.ensures

pub returns : goal.returns
returns g c =
    told_there c.byte_of-byte.result c.in_ok-hover.hover c.byte_of-byte.ensures
    (sym c.is_comment.ensures ∙ c.if-is_comment.false)
    (subst (λ t. IsHovered c.args.language.now c.args.kind t c.byte_of-byte.result c.in_ok-hover.hover)
    c.as_slice-bytes.ensures.value c.in_ok-hover.ensures) c.in_ok-value.ensures
