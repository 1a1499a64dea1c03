use Rattle.std.proofs.Common.{refl, ◌∙◌, ap}
use Rattle.serde_json.specs.Data.{Data}
use Rattle.serde_json.specs.View.{view}
use Rattle.psg_messages.specs.Answers.{answer_of}
use Rattle.psg_messages.specs.Messages.{given_of}
use Rattle.psg_server.specs.Answering.{sent, shuts_down}
use Rattle.psg_server.proofs.ServeLaws.{served_as}
use Rattle.psg_server.proofs.server.Server.shut_down.Goals as goal

pub returns : goal.returns
returns c = λ def kind method is.
    served_as def kind _ _ _ _ _ _ _ _ refl refl
    (c.in_ok-reply.ensures ∙ ap (λ (d : Data). sent (answer_of (view c.args.id.now) d)) c.null_value.ensures)
    (shuts_down (view c.args.id.now) method (given_of c.args._given) is)
