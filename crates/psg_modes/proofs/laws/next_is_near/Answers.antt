use Rattle.psg_modes.proofs.NextLaws.{next_is}
use Rattle.psg_modes.proofs.laws.next_is_near.Goals as goal

pub returns : goal.returns
returns c = λ paths from forward. next_is paths from forward
