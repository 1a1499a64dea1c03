use Rattle.std.proofs.Common.{refl, ap}
use Rattle.psg_messages.specs.Messages.{given_of}
use Rattle.psg_server.specs.Answering.{ended, exits}
use Rattle.psg_server.proofs.ServeLaws.{served_as}
use Rattle.psg_server.proofs.server.Server.leave.Goals as goal

pub returns : goal.returns
returns c = λ def kind method is.
    served_as def kind _ _ _ _ _ _ _ _ refl refl (ap ended c.status.ensures) (exits method (given_of c.args._given) is)
