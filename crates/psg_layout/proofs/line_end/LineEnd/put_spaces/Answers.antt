use Rattle.psg_layout.proofs.LineLaws.{spaces_put}
use Rattle.psg_layout.proofs.line_end.LineEnd.put_spaces.Goals as goal

pub returns : goal.returns
returns c = spaces_put c.args.self.now c.in_ok-self.field-0 c.args.spaces c.in_ok-self.ensures
