use Rattle.std.proofs.Common.{List, ℕ, Option, sym, ◌∙◌, ap}
use Rattle.std.specs.Option.{option_map}
use Rattle.psg_messages.specs.Messages.{given_of}
use Rattle.psg_server.specs.Answering.{closes_none, open_at}
use Rattle.psg_server.proofs.ServeLaws.{closed_as, closed_phase}
use Rattle.psg_server.proofs.server.Server.close.Goals as goal

pub returns-in_ok-reply-in-Some-clause-served : goal.returns-in_ok-reply-in-Some-clause-served
returns-in_ok-reply-in-Some-clause-served c = λ def kind method is.
    closed_as def kind c.in-Some.address.now _ _ _ method (given_of c.args.given) is
    (sym c.address_in.ensures ∙ ap (λ o. option_map (λ s. s.now) o) c.in-Some.is) c.in_ok-reply-in-Some.ensures.closed

pub returns-in_ok-reply-in-Some-clause-phase : goal.returns-in_ok-reply-in-Some-clause-phase
returns-in_ok-reply-in-Some-clause-phase c = closed_phase c.in-Some.address.now _ _ _ c.in_ok-reply-in-Some.ensures.closed

pub returns-in-None-clause-served : goal.returns-in-None-clause-served
returns-in-None-clause-served c = λ def kind method is.
    closes_none method (given_of c.args.given) is
    (ap (λ (o : Option (List ℕ)). open_at o c.args.self.now.documents)
    (sym c.address_in.ensures ∙ ap (λ o. option_map (λ s. s.now) o) c.in-None.is))
