use Rattle.std.proofs.Common.{◌++◌, ◌∷◌, [], cond, append-nil, ap, sym, ◌∙◌}
use Rattle.psg_uses.proofs.free.push_space.Goals as goal

pub returns-then-may : goal.returns-then-may
returns-then-may c =
    c.in_ok-push.ensures.items ∙ ap (λ b. c.args.found.now.items ++ cond b (c.args.space ∷ []) []) (sym c.if-may.true)

pub returns : goal.returns
returns c =
    sym (append-nil c.args.found.now.items) ∙ ap (λ b. c.args.found.now.items ++ cond b (c.args.space ∷ []) []) (sym c.if-may.false)
