use Rattle.std.proofs.Common.{Some, sym, ◌∙◌, ap}
use Rattle.std.specs.Option.{option_map}
use Rattle.psg_messages.specs.Messages.{given_of}
use Rattle.psg_server.specs.Answering.{opens_none}
use Rattle.psg_server.specs.declared.documents.Document.{Document}
use Rattle.psg_server.specs.Told.{document_of}
use Rattle.psg_server.proofs.ServeLaws.{opened_as}
use Rattle.psg_server.proofs.server.Server.open.Goals as goal

pub returns-in_ok-reply-in-Some-clause-served : goal.returns-in_ok-reply-in-Some-clause-served
returns-in_ok-reply-in-Some-clause-served g c = λ method is.
    opened_as c.args.defined.now c.args.kind c.in_ok-document-in-Some.document _ _ _ method (given_of c.args.given) is
    (sym c.opened_in.ensures ∙ ap (λ o. option_map document_of o) c.in-Some.is
    ∙ ap (λ (d : Document). Some d) (sym c.in_ok-document-in-Some.ensures)) c.in_ok-reply-in-Some.ensures.kept

pub returns-in_ok-reply-in-Some-clause-phase : goal.returns-in_ok-reply-in-Some-clause-phase
returns-in_ok-reply-in-Some-clause-phase g c = c.in_ok-reply-in-Some.ensures.kept.phase_is

pub returns-in-None-clause-served : goal.returns-in-None-clause-served
returns-in-None-clause-served g c = λ method is.
    opens_none method (given_of c.args.given) is
    (sym c.opened_in.ensures ∙ ap (λ o. option_map document_of o) c.in-None.is)
