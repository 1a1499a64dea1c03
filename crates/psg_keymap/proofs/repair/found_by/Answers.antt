use Rattle.psg_keymap.proofs.RepairLaws.{all_ticks, first_ticks}
use Rattle.psg_keymap.proofs.repair.found_by.Goals as goal

pub returns-clause-ticks : goal.returns-clause-ticks
returns-clause-ticks g c = λ h le. all_ticks _ _ _ _ (c.in_ok-found.ensures.ticks h le) _ c.in_ok-repair.ensures.ticks

pub returns-in_err-found-clause-ticks : goal.returns-in_err-found-clause-ticks
returns-in_err-found-clause-ticks g c = λ h le. first_ticks _ _ _ _ (c.in_err-found.ensures.ticks h le)

pub returns-in_err-repair-clause-ticks : goal.returns-in_err-repair-clause-ticks
returns-in_err-repair-clause-ticks g c =
    λ h le. all_ticks _ _ _ _ (c.in_ok-found.ensures.ticks h le) _ c.in_err-repair.ensures.ticks
