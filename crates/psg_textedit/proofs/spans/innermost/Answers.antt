use Rattle.psg_textedit.specs.Typing.{typing_of}
use Rattle.psg_textedit.proofs.Best.{some_first}
use Rattle.psg_textedit.proofs.spans.innermost.Goals as goal

pub loop-i-init : goal.loop-i-init
loop-i-init c = some_first c.args.spans.now (typing_of c.args.typed.now) c.requires.some c.requires.whole
