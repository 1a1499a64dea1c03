use Rattle.std.proofs.Common.{refl, sym, ap, ◌∙◌}
use Rattle.psg_tui.specs.Pressing.{with_face}
use Rattle.psg_tui.specs.Views.{desk}
use Rattle.psg_tui.proofs.SavingLaws.{of_face, on_err, on_ok, saves_asks, saves_leaves, saves_so}
use Rattle.psg_tui.proofs.editing.Editing.save.Goals as goal

pub returns-then-empty-clause-saved : goal.returns-then-empty-clause-saved
returns-then-empty-clause-saved g c = λ tree at.
    saves_leaves _ _ _ _ (desk c.args.self.now) _ _ _
    (sym c.requires.typed ∙ sym c.as_str-text.ensures ∙ c.is_empty-empty.ensures.0 c.if-empty.true) refl
    (ap (with_face (desk c.args.self.now)) c.enter.ensures)

pub returns-then-empty-clause-program : goal.returns-then-empty-clause-program
returns-then-empty-clause-program g c = of_face _ _

pub returns-then-there-clause-saved : goal.returns-then-there-clause-saved
returns-then-there-clause-saved g c = λ tree at.
    saves_asks _ _ _ _ (desk c.args.self.now) _ _ _ _ c.in_ok-there.there (c.as_str-text.ensures ∙ c.requires.typed)
    c.if-there.true c.in_ok-there.ensures.there refl

pub returns-then-there-clause-program : goal.returns-then-there-clause-program
returns-then-there-clause-program g c = of_face _ _

pub returns-clause-saved : goal.returns-clause-saved
returns-clause-saved g c =
    on_ok c.write_to.result _ _ c.write_to.ensures.written
    (λ w tree at. saves_so _ _ _ _ (desk c.args.self.now) _ c.args.name _ _ _ _ c.in_ok-there.there c.requires.typed
    c.as_str-text.ensures c.if-there.false c.in_ok-there.ensures.there (w tree at))

pub returns-clause-memory : goal.returns-clause-memory
returns-clause-memory g c =
    on_err c.write_to.result _ _ c.write_to.ensures.memory (λ m. (m.0, m.1 ∙ c.in_ok-there.ensures.holds))
