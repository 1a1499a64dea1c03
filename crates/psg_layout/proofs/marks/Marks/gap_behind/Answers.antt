use Rattle.psg_layout.proofs.MarkLaws.{gap_nothing}
use Rattle.psg_layout.proofs.marks.Marks.gap_behind.Goals as goal

pub returns : goal.returns
returns c = gap_nothing c.args.self.now c.args.last c.args.begins c.needs_space.result c.if-needs_space.false c.if-self.false c.needs_space.ensures
