use Rattle.std.proofs.Common.{◌++◌, append-nil, ap, ap₂, option_to_list, sym, ◌∙◌}
use Rattle.psg_uses.specs.Naming.{own_name}
use Rattle.psg_links.proofs.NamesLaws.{one_name}
use Rattle.psg_links.proofs.names.add_name.Goals as goal

pub returns-in_default : goal.returns-in_default
returns-in_default c =
    sym (append-nil c.args.found.now.items)
    ∙ ap (λ i. c.args.found.now.items ++ option_to_list (own_name i c.args.path.now c.args.number c.args.name.now)) (sym c.in_default.is)

pub returns : goal.returns
returns c =
    c.in_ok-push.ensures.items
    ∙ ap₂ (λ p n. c.args.found.now.items ++ one_name c.in-Some.own p c.args.number n) c.in_ok-path.ensures c.in_ok-name.ensures
    ∙ ap (λ i. c.args.found.now.items ++ option_to_list (own_name i c.args.path.now c.args.number c.args.name.now)) (sym c.in-Some.is)
