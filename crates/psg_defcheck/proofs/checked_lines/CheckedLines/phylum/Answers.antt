use Rattle.std.proofs.Common.{ap}
use Rattle.psg_defcheck.specs.Scopes.{phylum_names}
use Rattle.psg_defcheck.proofs.CheckLaws.{is-there, is-placed, few-phylum_names, phylum-named}
use Rattle.psg_defcheck.proofs.checked_lines.CheckedLines.phylum.Goals as goal

pub number-requires-clause-there : goal.number-requires-clause-there
number-requires-clause-there c =
    is-there c.self.inside.names.phyla _ (phylum_names c.args.self.now) c.self.invariant.names.phyla (ap phylum_names c.self.view_is) c.args.name.now (phylum-named c.args.self.now c.args.name.now c.requires)

pub number-requires-clause-few : goal.number-requires-clause-few
number-requires-clause-few c = few-phylum_names c.self.inside.names.phyla c.self.inside.entries.now c.self.invariant.names.phyla c.self.invariant.few

pub returns : goal.returns
returns c = is-placed c.self.inside.names.phyla _ (phylum_names c.args.self.now) c.self.invariant.names.phyla (ap phylum_names c.self.view_is) c.args.name.now c.number.result c.number.ensures
