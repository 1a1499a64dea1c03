use Rattle.std.proofs.Common.{Some, refl, sym, ap, ◌∙◌}
use Rattle.psg_keymap.specs.Faces.{unproved}
use Rattle.psg_modes.specs.Turning.{saying}
use Rattle.psg_tui.specs.Pressing.{with_face}
use Rattle.psg_tui.specs.Views.{desk}
use Rattle.psg_tui.proofs.SavingLaws.{of_face, on_ok, writes_asks, writes_none, writes_to}
use Rattle.psg_tui.proofs.editing.Editing.write.Goals as goal

pub returns-then-not-writes-clause-written : goal.returns-then-not-writes-clause-written
returns-then-not-writes-clause-written g c = λ tree at.
    writes_none _ _ _ _ (desk c.args.self.now) _ _ _ c.if-not-writes.true
    (ap (with_face (desk c.args.self.now)) (c.say.ensures ∙ ap (saying unproved) c.enter.ensures)) refl

pub returns-then-not-writes-clause-program : goal.returns-then-not-writes-clause-program
returns-then-not-writes-clause-program g c = of_face _ _

pub returns-in_ok-name-in-Some-clause-written : goal.returns-in_ok-name-in-Some-clause-written
returns-in_ok-name-in-Some-clause-written g c =
    on_ok c.write_to.result _ _ c.write_to.ensures.written
    (λ w tree at. writes_to _ _ _ _ (desk c.args.self.now) _ _ _ _ c.if-not-writes.false
    (c.in-Some.is ∙ ap Some (sym c.in_ok-name-in-Some.ensures)) (w tree at))

pub returns-in-None-clause-written : goal.returns-in-None-clause-written
returns-in-None-clause-written g c = λ tree at.
    writes_asks _ _ _ _ (desk c.args.self.now) _ _ _ c.if-not-writes.false c.in-None.is
    (ap (with_face (desk c.args.self.now)) c.enter-in-None.ensures) refl

pub returns-in-None-clause-program : goal.returns-in-None-clause-program
returns-in-None-clause-program g c = of_face _ _
