use Rattle.std.proofs.Common.{None}
use Rattle.psg_tui.proofs.EditingLaws.{known_before, then_before, with_shown}
use Rattle.psg_tui.proofs.editing.Editing.begin_key.Goals as goal

pub returns-clause-left : goal.returns-clause-left
returns-clause-left c =
    then_before c.args.self.now c.settle.new.self _ c.in_ok-settle.ensures.left
    (known_before c.settle.new.self _
    (with_shown c.settle.new.self (record c.settle.new.self.shown { asked = None })
    (λ t k. record { printed = k.printed; marked = k.marked; found = k.found })))
