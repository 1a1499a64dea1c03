use Rattle.std.proofs.Common.{refl}
use Rattle.psg_tui.specs.Views.{desk}
use Rattle.psg_tui.proofs.SavingLaws.{on_ok, same_written}
use Rattle.psg_tui.proofs.editing.Editing.write_over.Goals as goal

pub returns-clause-written : goal.returns-clause-written
returns-clause-written g c =
    on_ok c.write_to.result _ _ c.write_to.ensures.written
    (λ w tree at. same_written _ _ _ _ (desk c.args.self.now) _ _ _ _ _ _ refl c.in_ok-name.ensures (w tree at))
