use Rattle.psg_unparse.proofs.Adding.{glues_tells}
use Rattle.psg_layout.proofs.marks.runs_together.Goals as goal

pub returns-in-Some : goal.returns-in-Some
returns-in-Some c = rw c.in-Some.is (glues_tells _ _ _ c.glues.ensures.glue)
