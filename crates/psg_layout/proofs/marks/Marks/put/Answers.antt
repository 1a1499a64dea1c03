use Rattle.psg_layout.proofs.MarkLaws.{tight_put, space_put, line_put, in_put, out_put, other_put}
use Rattle.psg_layout.proofs.marks.Marks.put.Goals as goal

pub returns-in-Tight : goal.returns-in-Tight
returns-in-Tight c = rw c.in-Tight.is (tight_put c.args.self.now)

pub returns-in-Space : goal.returns-in-Space
returns-in-Space c = rw c.in-Space.is (space_put c.args.self.now)

pub returns-in-Line : goal.returns-in-Line
returns-in-Line c = rw c.in-Line.is (line_put c.args.self.now)

pub returns-in_ok-self-in-In : goal.returns-in_ok-self-in-In
returns-in_ok-self-in-In c = rw c.in-In.is (in_put c.args.self.now c.in_ok-self-in-In.field-0 c.in_ok-self-in-In.ensures)

pub returns-in-Out : goal.returns-in-Out
returns-in-Out c = rw c.in-Out.is (out_put c.args.self.now c.saturating_sub-self.result c.saturating_sub-self.ensures)

pub returns-in_default : goal.returns-in_default
returns-in_default c = other_put c.args.item.now c.args.self.now c.in_default.not-Tight c.in_default.not-Space c.in_default.not-Line c.in_default.not-In c.in_default.not-Out
