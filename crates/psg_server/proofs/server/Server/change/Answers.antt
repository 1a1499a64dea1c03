use Rattle.std.proofs.Common.{sym, ◌∙◌}
use Rattle.psg_messages.specs.Messages.{given_of}
use Rattle.psg_server.proofs.ServeLaws.{changed_as, unchanged_as}
use Rattle.psg_server.proofs.server.Server.change.Goals as goal

pub returns-in_ok-reply-in-Some-clause-served : goal.returns-in_ok-reply-in-Some-clause-served
returns-in_ok-reply-in-Some-clause-served g c = λ method is.
    changed_as c.args.defined.now c.args.kind c.in-Some.document _ _ _ method (given_of c.args.given) is
    (sym c.in-Some.is ∙ c.in_ok-found.ensures) c.in_ok-reply-in-Some.ensures.kept

pub returns-in_ok-reply-in-Some-clause-phase : goal.returns-in_ok-reply-in-Some-clause-phase
returns-in_ok-reply-in-Some-clause-phase g c = c.in_ok-reply-in-Some.ensures.kept.phase_is

pub returns-in-None-clause-served : goal.returns-in-None-clause-served
returns-in-None-clause-served g c = λ method is.
    unchanged_as c.args.defined.now c.args.kind c.args.self.now method (given_of c.args.given) is
    (sym c.in-None.is ∙ c.in_ok-found.ensures)
