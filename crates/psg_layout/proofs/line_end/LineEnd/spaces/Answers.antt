use Rattle.psg_layout.proofs.LineLaws.{spaces_known, spaces_blank}
use Rattle.psg_layout.proofs.line_end.LineEnd.spaces.Goals as goal

pub returns-in-Some : goal.returns-in-Some
returns-in-Some c = λ cs h. spaces_known c.args.self.now c.in-Some.spaces cs c.in-Some.is h

pub returns-in-None : goal.returns-in-None
returns-in-None c = λ cs h. spaces_blank c.args.self.now cs c.in-None.is h
