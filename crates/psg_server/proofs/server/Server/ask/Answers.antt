use Rattle.std.proofs.Common.{refl, sym, ◌∙◌, ap}
use Rattle.std.specs.Option.{option_map}
use Rattle.serde_json.specs.View.{view}
use Rattle.psg_messages.specs.Messages.{given_of}
use Rattle.psg_server.specs.Answering.{asks_none}
use Rattle.psg_server.specs.Told.{place_of}
use Rattle.psg_server.proofs.LinkingLaws.{asked_row}
use Rattle.psg_server.proofs.ServeLaws.{served_as}
use Rattle.psg_server.proofs.server.Server.ask.Goals as goal

pub returns-in_ok-reply-in-Some : goal.returns-in_ok-reply-in-Some
returns-in_ok-reply-in-Some g c = λ method is.
    served_as c.args.defined.now c.args.kind _ _ _ _ _ _ _ _ refl refl c.in_ok-reply-in-Some.ensures
    (asked_row c.args.defined.now c.args.kind c.args.self.now (view c.args.id.now) method (given_of c.args.given)
    (place_of c.in-Some.place) c.args.ask c.wants_declaring-all.result (view c.in_ok-value-in-Some.value) is
    (sym c.place_in.ensures ∙ ap (λ o. option_map place_of o) c.in-Some.is)
    c.wants_declaring-all.ensures c.in_ok-value-in-Some.ensures)

pub returns-in_ok-reply-in-None : goal.returns-in_ok-reply-in-None
returns-in_ok-reply-in-None g c = λ method is.
    served_as c.args.defined.now c.args.kind _ _ _ _ _ _ _ _ refl refl c.in_ok-reply-in-None.ensures
    (asks_none (view c.args.id.now) method (given_of c.args.given) c.args.ask is
    (sym c.place_in.ensures ∙ ap (λ o. option_map place_of o) c.in-None.is))
