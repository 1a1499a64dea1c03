use Rattle.std.proofs.Common.{refl, ap}
use Rattle.psg_tui.specs.Pressing.{with_face}
use Rattle.psg_tui.specs.Views.{desk}
use Rattle.psg_tui.proofs.SavingLaws.{of_face, on_err, on_ok, saves_enter, saves_types}
use Rattle.psg_tui.proofs.editing.Editing.save_key.Goals as goal

pub returns-in_ok-name-in-Enter-clause-saved : goal.returns-in_ok-name-in-Enter-clause-saved
returns-in_ok-name-in-Enter-clause-saved g c =
    on_ok c.save.result _ _ c.save.ensures.saved (λ s tree at. saves_enter _ _ _ _ _ _ _ _ _ c.in-Enter.is (s tree at))

pub returns-in_default-clause-saved : goal.returns-in_default-clause-saved
returns-in_default-clause-saved g c =
    on_ok c.type_key.result _ _ c.type_key.ensures.typed
    (λ t tree at. saves_types _ _ _ _ (desk c.args.self.now) _ _ _ _ c.in_default.not-Enter refl
    (ap (with_face (desk c.args.self.now)) t))

pub returns-in_default-clause-program : goal.returns-in_default-clause-program
returns-in_default-clause-program g c = of_face _ _

pub returns-in_default-clause-memory : goal.returns-in_default-clause-memory
returns-in_default-clause-memory g c =
    on_err c.type_key.result _ _ c.type_key.ensures.memory
    (λ m. (record { face = m; file = refl; written = refl }, refl))
