use Rattle.psg_relation.proofs.Indexing.{places_none}
use Rattle.psg_relation.proofs.heads.Heads.new.Goals as goal

pub returns-clause-places : goal.returns-clause-places
returns-clause-places c = places_none c.new-2.result c.new-2.ensures.empty
