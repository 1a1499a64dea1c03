use Rattle.std.proofs.Common.{◌++◌, [], append-nil, ap, ap₂, cond, option_to_list, sym, ◌∙◌}
use Rattle.psg_links.proofs.linked.push_spot.Goals as goal

pub returns-then-not-wanted : goal.returns-then-not-wanted
returns-then-not-wanted c =
    sym (append-nil c.args.found.now.items)
    ∙ ap (λ b. c.args.found.now.items ++ cond b (option_to_list c.args.spot) []) (sym c.if-not-wanted.true)

pub returns-in_ok-push-in-Some : goal.returns-in_ok-push-in-Some
returns-in_ok-push-in-Some c =
    c.in_ok-push-in-Some.ensures.items
    ∙ ap₂ (λ b s. c.args.found.now.items ++ cond b (option_to_list s) []) (sym c.if-not-wanted.false) (sym c.in-Some.is)

pub returns-in-None : goal.returns-in-None
returns-in-None c =
    sym (append-nil c.args.found.now.items)
    ∙ ap₂ (λ b s. c.args.found.now.items ++ cond b (option_to_list s) []) (sym c.if-not-wanted.false) (sym c.in-None.is)
