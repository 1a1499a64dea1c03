use Rattle.std.proofs.Common.{refl, sym, ◌∙◌, ap, inl, inr}
use Rattle.std.specs.Option.{option_map}
use Rattle.serde_json.specs.View.{view}
use Rattle.psg_messages.specs.Messages.{given_of}
use Rattle.psg_server.specs.Answering.{names_none}
use Rattle.psg_server.specs.Told.{naming_of}
use Rattle.psg_server.proofs.LinkingLaws.{named_row}
use Rattle.psg_server.proofs.ServeLaws.{served_as}
use Rattle.psg_server.proofs.server.Server.rename.Goals as goal

pub returns-in_default : goal.returns-in_default
returns-in_default g c = λ method is.
    served_as c.args.defined.now c.args.kind _ _ _ _ _ _ _ _ refl refl c.in_ok-reply.ensures
    (names_none (view c.args.id.now) method (given_of c.args.given) is
    (inl (sym c.open_in.ensures ∙ ap (λ o. option_map (λ d. d.now) o) c.in_default.is)))

pub returns-in_ok-reply-in-Some-naming_in : goal.returns-in_ok-reply-in-Some-naming_in
returns-in_ok-reply-in-Some-naming_in g c = λ method is.
    served_as c.args.defined.now c.args.kind _ _ _ _ _ _ _ _ refl refl c.in_ok-reply-in-Some-naming_in.ensures
    (named_row c.args.defined.now c.args.kind c.args.self.now (view c.args.id.now) method (given_of c.args.given)
    c.in-Some.document.now (naming_of c.in-Some-naming_in.naming) c.in_ok-named-in-Some-naming_in.named is
    (sym c.open_in.ensures ∙ ap (λ o. option_map (λ d. d.now) o) c.in-Some.is)
    (sym c.naming_in.ensures ∙ ap (option_map naming_of) c.in-Some-naming_in.is)
    c.in_ok-named-in-Some-naming_in.ensures)

pub returns-in_ok-reply-in-None : goal.returns-in_ok-reply-in-None
returns-in_ok-reply-in-None g c = λ method is.
    served_as c.args.defined.now c.args.kind _ _ _ _ _ _ _ _ refl refl c.in_ok-reply-in-None.ensures
    (names_none (view c.args.id.now) method (given_of c.args.given) is
    (inr (sym c.naming_in.ensures ∙ ap (option_map naming_of) c.in-None.is)))
