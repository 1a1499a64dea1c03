use Rattle.std.proofs.Common.{refl, sym, ap, ◌∙◌}
use Rattle.psg_tui.specs.Pressing.{with_face}
use Rattle.psg_tui.specs.Views.{desk}
use Rattle.psg_tui.proofs.SavingLaws.{leaves_ends, leaves_not, leaves_writes, of_face, on_ok}
use Rattle.psg_tui.proofs.editing.Editing.leave_key.Goals as goal

pub returns-then-ends-clause-left : goal.returns-then-ends-clause-left
returns-then-ends-clause-left g c = λ tree at.
    leaves_ends _ _ _ _ (desk c.args.self.now) _ _ _ _ (sym c.ends_at-ends.ensures ∙ c.if-ends.true) refl refl

pub returns-then-ends-clause-program : goal.returns-then-ends-clause-program
returns-then-ends-clause-program g c = of_face _ _

pub returns-then-writes-clause-left : goal.returns-then-writes-clause-left
returns-then-writes-clause-left g c =
    on_ok c.write.result _ _ c.write.ensures.written
    (λ w tree at. leaves_writes _ _ _ _ (desk c.args.self.now) _ _ _ _
    (sym c.is_char-writes.ensures ∙ c.if-writes.true) (w tree at))

pub returns-clause-left : goal.returns-clause-left
returns-clause-left g c = λ tree at.
    leaves_not _ _ _ _ (desk c.args.self.now) _ _ _ _ (sym c.ends_at-ends.ensures ∙ c.if-ends.false)
    (sym c.is_char-writes.ensures ∙ c.if-writes.false) refl (ap (with_face (desk c.args.self.now)) c.enter.ensures)

pub returns-clause-program : goal.returns-clause-program
returns-clause-program g c = of_face _ _
