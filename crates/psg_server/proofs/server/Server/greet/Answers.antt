use Rattle.std.proofs.Common.{refl, ◌∙◌, ap}
use Rattle.serde_json.specs.Data.{Data}
use Rattle.serde_json.specs.View.{view}
use Rattle.psg_messages.specs.Answers.{answer_of}
use Rattle.psg_messages.specs.Messages.{given_of}
use Rattle.psg_server.specs.Answering.{greets, sent}
use Rattle.psg_server.specs.Capabilities.{greeting_of}
use Rattle.psg_server.proofs.ServeLaws.{served_as}
use Rattle.psg_server.proofs.server.Server.greet.Goals as goal

pub returns-clause-served : goal.returns-clause-served
returns-clause-served c = λ def kind method is.
    served_as def kind _ _ _ _ _ _ _ _ c.encoding_in-encoding.ensures refl
    (c.in_ok-reply.ensures ∙ ap (λ (d : Data). sent (answer_of (view c.args.id.now) d))
    (c.in_ok-value.ensures ∙ ap greeting_of c.encoding_in-encoding.ensures))
    (greets (view c.args.id.now) method (given_of c.args.given) is)
