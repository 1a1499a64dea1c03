use Rattle.std.proofs.Common.{◌++◌, ◌∷◌, [], cond, append-nil, ap, ap₂, sym, ◌∙◌}
use Rattle.psg_uses.specs.Naming.{wanted_name, written}
use Rattle.psg_uses.proofs.names.add_name.Goals as goal

pub returns-in_default : goal.returns-in_default
returns-in_default c =
    sym (append-nil c.args.found.now.items)
    ∙ ap (λ i. c.args.found.now.items ++ wanted_name c.args.how.declared i c.args.path.now c.args.number c.args.name.now) (sym c.in_default.is)

pub returns-then-not-wanted : goal.returns-then-not-wanted
returns-then-not-wanted c =
    sym (append-nil c.args.found.now.items)
    ∙ ap (λ b. c.args.found.now.items ++ cond b (written c.args.path.now c.args.number c.in-Some.own.space c.args.name.now ∷ []) [])
    (sym (sym c.is_wanted-wanted.ensures ∙ c.if-not-wanted.true))
    ∙ ap (λ i. c.args.found.now.items ++ wanted_name c.args.how.declared i c.args.path.now c.args.number c.args.name.now) (sym c.in-Some.is)

pub returns : goal.returns
returns c =
    c.in_ok-push.ensures.items
    ∙ ap₂ (λ p n. c.args.found.now.items ++ written p c.args.number c.in-Some.own.space n ∷ []) c.in_ok-path.ensures c.in_ok-name.ensures
    ∙ ap (λ b. c.args.found.now.items ++ cond b (written c.args.path.now c.args.number c.in-Some.own.space c.args.name.now ∷ []) [])
    (sym (sym c.is_wanted-wanted.ensures ∙ c.if-not-wanted.false))
    ∙ ap (λ i. c.args.found.now.items ++ wanted_name c.args.how.declared i c.args.path.now c.args.number c.args.name.now) (sym c.in-Some.is)
