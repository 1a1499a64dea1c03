use Rattle.psg_cache.proofs.LeastLaws.{no_more_than_anew}
use Rattle.psg_cache.proofs.laws.no_more_than_anew.Goals as goal

pub returns : goal.returns
returns c = no_more_than_anew
