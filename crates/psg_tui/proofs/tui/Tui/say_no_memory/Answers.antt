use Rattle.psg_tui.proofs.TuiLaws.{editing_said}
use Rattle.psg_tui.proofs.tui.Tui.say_no_memory.Goals as goal

pub invariant_of-self : goal.invariant_of-self
invariant_of-self c = editing_said c.self.inside.editing c.self.invariant
