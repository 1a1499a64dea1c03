use Rattle.psg_tui.proofs.PictureLaws.{scrolled_before, then_scrolled}
use Rattle.psg_tui.proofs.TuiLaws.{editing_before, editing_scrolled, scrolled_in, shows_in}
use Rattle.psg_tui.proofs.tui.Tui.picture.Goals as goal

pub settle-requires : goal.settle-requires
settle-requires c = c.self.invariant

pub picture_of-requires-clause-editing : goal.picture_of-requires-clause-editing
picture_of-requires-clause-editing c =
    editing_before c.self.inside.editing c.settle.new.self c.self.invariant c.settle.ensures.left

pub returns-in_err-settle-clause-left : goal.returns-in_err-settle-clause-left
returns-in_err-settle-clause-left c =
    scrolled_in c.self.inside.editing c.args.self.now _ c.self.view_is
    (scrolled_before c.self.inside.editing c.settle.new.self c.settle.ensures.left)

pub returns-in_err-picture-clause-left : goal.returns-in_err-picture-clause-left
returns-in_err-picture-clause-left c =
    scrolled_in c.self.inside.editing c.args.self.now _ c.self.view_is
    (then_scrolled c.self.inside.editing c.settle.new.self c.settle.ensures.left _ c.picture_of.ensures.left)

pub returns-clause-picture : goal.returns-clause-picture
returns-clause-picture c =
    shows_in c.self.inside.editing c.args.self.now c.settle.new.self c.picture_of.new.editing c.in_ok-picture.picture
    c.self.view_is c.settle.ensures.left c.in_ok-settle.ensures.settled c.picture_of.ensures.aim
    c.in_ok-picture.ensures.picture

pub returns-clause-left : goal.returns-clause-left
returns-clause-left c =
    scrolled_in c.self.inside.editing c.args.self.now _ c.self.view_is
    (then_scrolled c.self.inside.editing c.settle.new.self c.settle.ensures.left _ c.picture_of.ensures.left)

pub invariant_of-self : goal.invariant_of-self
invariant_of-self c = editing_before c.self.inside.editing c.settle.new.self c.self.invariant c.settle.ensures.left

pub invariant_of-self-2 : goal.invariant_of-self-2
invariant_of-self-2 c =
    editing_scrolled c.self.inside.editing _ c.self.invariant
    (then_scrolled c.self.inside.editing c.settle.new.self c.settle.ensures.left _ c.picture_of.ensures.left)

pub invariant_of-self-in_err-picture : goal.invariant_of-self-in_err-picture
invariant_of-self-in_err-picture c =
    editing_scrolled c.self.inside.editing _ c.self.invariant
    (then_scrolled c.self.inside.editing c.settle.new.self c.settle.ensures.left _ c.picture_of.ensures.left)
