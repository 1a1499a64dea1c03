use Rattle.std.proofs.Common.{◌∙◌}
use Rattle.psg_defcheck.proofs.NameLaws.{listed-among, listed-place}
use Rattle.psg_defcheck.proofs.names.Names.place.Goals as goal

pub returns-clause-there : goal.returns-clause-there
returns-clause-there c = c.get_index_of.ensures.found ∙ listed-among c.args.self.now.set.keys c.args.name.now

pub returns-clause-place : goal.returns-clause-place
returns-clause-place c = listed-place c.args.self.now.set.keys c.args.name c.get_index_of.result c.get_index_of.ensures.index
