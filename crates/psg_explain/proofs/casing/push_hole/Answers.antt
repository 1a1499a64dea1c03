use Rattle.std.proofs.Common.{◌++◌, ◌∷◌, [], append-nil, ap, sym, ◌∙◌}
use Rattle.psg_explain.proofs.CasingLaws.{hole_row_is, hole_row_not}
use Rattle.psg_explain.proofs.casing.push_hole.Goals as goal

pub returns-then-is_kind : goal.returns-then-is_kind
returns-then-is_kind c =
    c.in_ok-push.ensures.items ∙ ap (λ r. c.args.rows.now.items ++ r ∷ []) c.in_ok-one.ensures
    ∙ ap (λ l. c.args.rows.now.items ++ l) (sym (hole_row_is c.args.kind c.args.row.now (sym c.is_kind.ensures ∙ c.if-is_kind.true)))

pub returns : goal.returns
returns c = sym (append-nil c.args.rows.now.items) ∙ ap (λ l. c.args.rows.now.items ++ l) (sym (hole_row_not c.args.kind c.args.row.now (sym c.is_kind.ensures ∙ c.if-is_kind.false)))
