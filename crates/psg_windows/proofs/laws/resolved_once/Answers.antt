use Rattle.psg_windows.proofs.Places.{none_left, stays_resolved}
use Rattle.psg_windows.proofs.laws.resolved_once.Goals as goal

pub returns-clause-stays : goal.returns-clause-stays
returns-clause-stays c = stays_resolved

pub returns-clause-none : goal.returns-clause-none
returns-clause-none c = none_left
