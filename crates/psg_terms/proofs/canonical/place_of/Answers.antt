use Rattle.psg_terms.proofs.Knowing.{placed}
use Rattle.psg_terms.proofs.canonical.place_of.Goals as goal

pub returns : goal.returns
returns c = placed (record { sort = c.args.sort; number = c.args.number }) c.args.known.now.keys c.get_index_of.result c.get_index_of.ensures.index
