use Rattle.std.proofs.Common.{Some, ap, slice_get, sym, ◌∙◌}
use Rattle.psg_lint.specs.Judged.{def_of, fresh_of, tree_in}
use Rattle.psg_lint.proofs.TellLaws.{end_list, option_none, option_some, tells_end, tells_other}
use Rattle.psg_lint.proofs.blaming.tell_end.Goals as goal

pub other_name-requires-clause-there : goal.other_name-requires-clause-there
other_name-requires-clause-there g c =
    let w = c.args.wrong in
    end_list (def_of w) (tree_in w) c.requires.wrong.judged.formed c.args.number c.args.path.now
    (ap (λ ps. slice_get ps c.args.number) (sym c.requires.wrong.places) ∙ c.requires.place ∙ ap Some c.requires.path)

pub returns-in_ok-told-in-Some : goal.returns-in_ok-told-in-Some
returns-in_ok-told-in-Some g c = λ r is.
    let (message, own, e) = c.in_ok-told-in-Some.ensures r is in
    let (other, same) = option_some _ _ c.in_ok-found.found c.in-Some.other c.in-Some.is c.in_ok-found.ensures in
    tells_other (def_of c.args.wrong) c.args.wrong.judged.text.now (tree_in c.args.wrong) r (fresh_of c.args.wrong) c.args.wrong.kept.now
    c.args.number c.in-Some.other.number c.args.place.now c.args.path.now c.in-Some.other.name c.in-Some.other.answers.items
    c.in_ok-told-in-Some.told message c.requires.path other same own e

pub returns-in_ok-told-in-None : goal.returns-in_ok-told-in-None
returns-in_ok-told-in-None g c = λ r is.
    let (message, own, e) = c.in_ok-told-in-None.ensures r is in
    tells_end (def_of c.args.wrong) c.args.wrong.judged.text.now (tree_in c.args.wrong) r (fresh_of c.args.wrong) c.args.wrong.kept.now
    c.args.number c.args.place.now c.args.path.now c.in_ok-told-in-None.told message c.requires.path
    (option_none _ _ c.in_ok-found.found c.in-None.is c.in_ok-found.ensures) own e
