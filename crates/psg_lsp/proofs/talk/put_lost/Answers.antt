use Rattle.std.proofs.Common.{refl}
use Rattle.psg_protocol.specs.Frames.{lost}
use Rattle.psg_lsp.specs.Talking.{by_break, by_loss}
use Rattle.psg_lsp.proofs.talk.put_lost.Goals as goal

pub returns-in-Some : goal.returns-in-Some
returns-in-Some g c = λ def kind server. by_break lost c.in-Some.ending c.in-Some.ensures

pub returns-in-None : goal.returns-in-None
returns-in-None g c = λ def kind server. by_loss (c.in-None.ensures refl)
