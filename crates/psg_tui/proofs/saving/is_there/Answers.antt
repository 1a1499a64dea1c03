use Rattle.std.proofs.Common.{sym, ◌∙◌}
use Rattle.psg_tui.proofs.SavingLaws.{not_there, same_outside, there_by}
use Rattle.psg_tui.proofs.saving.is_there.Goals as goal

pub returns-in-Ok-clause-there : goal.returns-in-Ok-clause-there
returns-in-Ok-clause-there g c =
    there_by c.has_some-full.result _ _ c.args.name.now c.in-Ok.bytes.items
    (same_outside _ _ _ _ c.read.ensures.keeps c.in-Ok.ensures.entries) c.in-Ok.ensures.front
    (λ y e. c.has_some-full.ensures.some y (c.as_slice.ensures.value ∙ e))
    (λ n. sym c.as_slice.ensures.value ∙ c.has_some-full.ensures.none n)

pub returns-in-Failed-clause-there : goal.returns-in-Failed-clause-there
returns-in-Failed-clause-there g c =
    not_there _ _ c.args.name.now c.in-Err.stop c.read.ensures.keeps c.in-Err.ensures.entries c.in-Failed.is
