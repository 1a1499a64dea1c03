use Rattle.std.proofs.Common.{◌++◌, ◌∷◌, [], cond, append-nil, ap, sym, ◌∙◌}
use Rattle.psg_uses.proofs.free.push_free.Goals as goal

pub returns-then-told : goal.returns-then-told
returns-then-told c =
    sym (append-nil c.args.free.now.items) ∙ ap (λ b. c.args.free.now.items ++ cond b [] (c.args.name ∷ [])) (sym c.if-told.true)

pub returns : goal.returns
returns c =
    c.in_ok-push.ensures.items ∙ ap (λ b. c.args.free.now.items ++ cond b [] (c.args.name ∷ [])) (sym c.if-told.false)
