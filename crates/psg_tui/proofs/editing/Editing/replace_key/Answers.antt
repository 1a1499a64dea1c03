use Rattle.std.proofs.Common.{refl, sym, ap, ◌∙◌}
use Rattle.psg_tui.specs.Pressing.{with_face}
use Rattle.psg_tui.specs.Views.{desk}
use Rattle.psg_tui.proofs.SavingLaws.{of_face, on_ok, replaces_not, replaces_so}
use Rattle.psg_tui.proofs.editing.Editing.replace_key.Goals as goal

pub returns-then-writes-clause-replaced : goal.returns-then-writes-clause-replaced
returns-then-writes-clause-replaced g c =
    on_ok c.write_over.result _ _ c.write_over.ensures.written
    (λ w tree at. replaces_so _ _ _ _ (desk c.args.self.now) _ _ _ _ _ (sym c.is_char-writes.ensures ∙ c.if-writes.true)
    refl (w tree at))

pub returns-clause-replaced : goal.returns-clause-replaced
returns-clause-replaced g c = λ tree at.
    replaces_not _ _ _ _ (desk c.args.self.now) _ _ _ _ (sym c.is_char-writes.ensures ∙ c.if-writes.false) refl
    (ap (with_face (desk c.args.self.now)) c.enter.ensures)

pub returns-clause-program : goal.returns-clause-program
returns-clause-program g c = of_face _ _
