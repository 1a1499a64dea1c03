use Rattle.std.proofs.Common.{Some, ap, sym, subst, take, ◌∙◌}
use Rattle.std.specs.Prelude.{string_bytes}
use Rattle.psg_places.specs.declared.place.Place.{Place}
use Rattle.psg_places.specs.declared.place.Place.TheVariants.{Element}
use Rattle.psg_lint.specs.Blamed.{IsMessage, of_element}
use Rattle.psg_lint.specs.Judged.{fresh_of}
use Rattle.psg_lint.proofs.MessageLaws.{element_is}
use Rattle.psg_lint.proofs.messages.message_of.Goals as goal

pub of_element-requires-clause-there : goal.of_element-requires-clause-there
of_element-requires-clause-there g c =
    element_is c.args.wrong c.requires.wrong c.args.number c.requires.number c.requires.blamed c.in-Element.path (c.requires.place ∙ ap Some c.in-Element.is)

pub returns-in_ok-message-in-Element : goal.returns-in_ok-message-in-Element
returns-in_ok-message-in-Element g c = λ r spots.
    let w = c.args.wrong in
    let def = w.judged.definition.now in
    let message = string_bytes c.in_ok-message-in-Element.message in
    let (e, at) = element_is w c.requires.wrong c.args.number c.requires.number c.requires.blamed c.in-Element.path (c.requires.place ∙ ap Some c.in-Element.is) in
    subst (λ (p : Place). IsMessage def w.judged.text.now w.judged.tree.now r (fresh_of w) (take c.args.number w.kept.now) c.args.number p message) (sym c.in-Element.is)
    (subst (IsMessage def w.judged.text.now w.judged.tree.now r (fresh_of w) (take c.args.number w.kept.now) c.args.number (Element c.in-Element.path))
    (sym (c.in_ok-message-in-Element.ensures e at)) (of_element c.in-Element.path e at))
