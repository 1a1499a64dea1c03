use Rattle.psg_cache.proofs.AllNoted.{all_noted}
use Rattle.psg_cache.proofs.laws.all_summaries.Goals as goal

pub returns : goal.returns
returns c = all_noted
