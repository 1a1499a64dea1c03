use Rattle.psg_modes.specs.Pages.{key_lines}
use Rattle.psg_tui.proofs.TuiLaws.{memory_in, pressed_in, same_in}
use Rattle.psg_tui.proofs.tui.Tui.press.Goals as goal

pub press-requires : goal.press-requires
press-requires g c = c.self.invariant

pub returns-in_err-press-clause-same : goal.returns-in_err-press-clause-same
returns-in_err-press-clause-same g c =
    same_in c.self.inside.editing c.args.self.now _ c.self.view_is c.in_err-press.ensures.same

pub returns-in_err-press-clause-memory : goal.returns-in_err-press-clause-memory
returns-in_err-press-clause-memory g c =
    memory_in c.from_residual.result c.self.inside.editing c.args.self.now _ _ c.self.view_is
    c.in_err-press.ensures.memory

pub returns-clause-pressed : goal.returns-clause-pressed
returns-clause-pressed g c =
    pressed_in key_lines c.args.stroke.now _ _ c.press.new.self c.self.inside.editing
    c.args.self.now c.self.view_is c.self.invariant c.in_ok-press.ensures.pressed

pub returns-clause-same : goal.returns-clause-same
returns-clause-same g c =
    same_in c.self.inside.editing c.args.self.now _ c.self.view_is c.in_ok-press.ensures.same

pub invariant_of-self : goal.invariant_of-self
invariant_of-self g c = c.press.ensures.editing

pub invariant_of-self-2 : goal.invariant_of-self-2
invariant_of-self-2 g c = c.press.ensures.editing
