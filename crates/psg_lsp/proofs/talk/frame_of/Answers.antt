use Rattle.std.proofs.Common.{◌∙◌, ap}
use Rattle.psg_protocol.specs.Frames.{framed}
use Rattle.psg_lsp.proofs.talk.frame_of.Goals as goal

pub returns : goal.returns
returns c = λ plain. c.in_ok-bytes.ensures.bytes ∙ ap framed (c.as_bytes.ensures.value ∙ c.in_ok-text.ensures.text plain)
