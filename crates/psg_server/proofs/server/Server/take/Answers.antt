use Rattle.std.proofs.Common.{◌∙◌, ap}
use Rattle.std.specs.Option.{option_map}
use Rattle.serde_json.specs.View.{view}
use Rattle.psg_messages.specs.Messages.{said_of}
use Rattle.psg_messages.specs.Turns.{due_of, passed, refused, served}
use Rattle.psg_server.specs.Answering.{is_passed}
use Rattle.psg_server.proofs.ServeLaws.{due_is, phase_is, refused_as, refused_due, served_gets}
use Rattle.psg_server.proofs.server.Server.take.Goals as goal

pub returns-in-Pass-clause-gets : goal.returns-in-Pass-clause-gets
returns-in-Pass-clause-gets g c =
    is_passed (due_is c.args.self.now.phase c.is_known.result (said_of c.args.message.now) c.turn_of-turn.result passed
    c.is_known.ensures c.turn_of-turn.ensures (ap due_of c.in-Pass.is))

pub returns-in_ok-reply-in-Refuse-clause-gets : goal.returns-in_ok-reply-in-Refuse-clause-gets
returns-in_ok-reply-in-Refuse-clause-gets g c =
    refused_as c.args.defined.now c.args.kind c.args.self.now (said_of c.args.message.now) _
    (option_map (λ i. view i.now) c.in-Refuse.id) c.in-Refuse.fault
    (due_is c.args.self.now.phase c.is_known.result (said_of c.args.message.now) c.turn_of-turn.result
    (refused (option_map (λ i. view i.now) c.in-Refuse.id) c.in-Refuse.fault) c.is_known.ensures c.turn_of-turn.ensures
    (ap due_of c.in-Refuse.is ∙ refused_due c.in-Refuse.id c.in-Refuse.fault))
    c.in_ok-reply-in-Refuse.ensures

pub returns-in_ok-reply-in-Serve-clause-gets : goal.returns-in_ok-reply-in-Serve-clause-gets
returns-in_ok-reply-in-Serve-clause-gets g c =
    served_gets c.args.defined.now c.args.kind c.args.self.now _ (said_of c.args.message.now) _
    (due_is c.args.self.now.phase c.is_known.result (said_of c.args.message.now) c.turn_of-turn.result served
    c.is_known.ensures c.turn_of-turn.ensures (ap due_of c.in-Serve.is))
    c.in_ok-reply-in-Serve.ensures.served
    (phase_is c.phase_after-self.result c.args.self.now.phase c.serve.new.self.phase (due_of c.turn_of-turn.result)
    (said_of c.args.message.now) c.phase_after-self.ensures c.in_ok-reply-in-Serve.ensures.phase (ap due_of c.in-Serve.is))
