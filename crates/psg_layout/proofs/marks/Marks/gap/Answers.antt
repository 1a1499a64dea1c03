use Rattle.std.proofs.Common.{◌∙◌}
use Rattle.psg_layout.proofs.MarkLaws.{gap_none, gap_some}
use Rattle.psg_layout.proofs.marks.Marks.gap.Goals as goal

pub returns-in_ok-gap-in-Some : goal.returns-in_ok-gap-in-Some
returns-in_ok-gap-in-Some c = λ row t h b. c.in_ok-gap-in-Some.ensures ∙ gap_some c.args.self.now row t c.in-Some.last c.args.begins c.in-Some.is h b

pub returns-in-None : goal.returns-in-None
returns-in-None c = λ row t h b. gap_none c.args.self.now row t c.in-None.is h
