use Rattle.psg_tui.proofs.TuiLaws.{before_in, editing_before}
use Rattle.psg_tui.proofs.tui.Tui.wonder.Goals as goal

pub wonder-requires : goal.wonder-requires
wonder-requires g c = c.self.invariant

pub returns-clause-left : goal.returns-clause-left
returns-clause-left g c = before_in c.self.inside.editing c.args.self.now _ c.self.view_is c.wonder.ensures.left

pub invariant_of-self : goal.invariant_of-self
invariant_of-self g c = editing_before c.self.inside.editing _ c.self.invariant c.wonder.ensures.left
