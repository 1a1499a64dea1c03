use Rattle.std.proofs.Common.{◌∙◌}
use Rattle.psg_defcheck.proofs.NameLaws.{listed-among}
use Rattle.psg_defcheck.proofs.names.Names.contains.Goals as goal

pub returns : goal.returns
returns c = c.contains.ensures ∙ listed-among c.args.self.now.set.keys c.args.name.now
