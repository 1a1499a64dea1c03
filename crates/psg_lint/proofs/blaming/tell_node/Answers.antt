use Rattle.psg_lint.specs.Judged.{def_of, fresh_of, tree_in}
use Rattle.psg_lint.proofs.TellLaws.{option_none, option_some, tells_itself, tells_member}
use Rattle.psg_lint.proofs.blaming.tell_node.Goals as goal

pub returns-in_ok-told-in-Some : goal.returns-in_ok-told-in-Some
returns-in_ok-told-in-Some g c = λ r is.
    tells_member (def_of c.args.wrong) c.args.wrong.judged.text.now (tree_in c.args.wrong) r (fresh_of c.args.wrong) c.args.wrong.kept.now
    c.args.number c.args.place.now c.args.path.now c.in-Some.own c.in_ok-told-in-Some.told c.requires.path c.requires.first
    (option_some _ _ c.in_ok-found.found c.in-Some.own c.in-Some.is c.in_ok-found.ensures) (c.in_ok-told-in-Some.ensures r is)

pub returns-in_ok-told-in-None : goal.returns-in_ok-told-in-None
returns-in_ok-told-in-None g c = λ r is.
    let (message, own, e) = c.in_ok-told-in-None.ensures r is in
    tells_itself (def_of c.args.wrong) c.args.wrong.judged.text.now (tree_in c.args.wrong) r (fresh_of c.args.wrong) c.args.wrong.kept.now
    c.args.number c.args.place.now c.args.path.now c.in_ok-told-in-None.told message c.requires.path c.requires.first
    (option_none _ _ c.in_ok-found.found c.in-None.is c.in_ok-found.ensures) own e
