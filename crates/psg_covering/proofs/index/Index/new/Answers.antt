use Rattle.psg_covering.proofs.IndexLaws.{places_none}
use Rattle.psg_covering.proofs.index.Index.new.Goals as goal

pub returns-clause-passing : goal.returns-clause-passing
returns-clause-passing c = places_none c.new.result c.new.ensures.empty

pub returns-clause-ending : goal.returns-clause-ending
returns-clause-ending c = places_none c.new-2.result c.new-2.ensures.empty
