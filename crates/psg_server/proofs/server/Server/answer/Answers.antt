use Rattle.serde_json.specs.View.{view}
use Rattle.psg_server.proofs.ServeLaws.{json_as, no_value, none_answered, value_is}
use Rattle.psg_server.proofs.server.Server.answer.Goals as goal

pub returns-in_ok-reply-in-None-clause-answered : goal.returns-in_ok-reply-in-None-clause-answered
returns-in_ok-reply-in-None-clause-answered g c =
    none_answered c.args.defined.now c.args.kind c.args.body.now c.args.self.now _
    (no_value c.args.body.now c.in_ok-found.found c.in_ok-found.ensures c.in-None.is) c.in_ok-reply-in-None.ensures

pub returns-in_ok-reply-in-Some-clause-answered : goal.returns-in_ok-reply-in-Some-clause-answered
returns-in_ok-reply-in-Some-clause-answered g c =
    json_as c.args.defined.now c.args.kind c.args.body.now c.args.self.now _ _ (view c.in-Some.value) _
    (value_is c.args.body.now c.in_ok-found.found c.in-Some.value c.in_ok-found.ensures c.in-Some.is)
    c.message_of-message.ensures c.in_ok-reply-in-Some.ensures.gets
