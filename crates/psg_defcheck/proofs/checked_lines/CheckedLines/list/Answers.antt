use Rattle.std.proofs.Common.{ap}
use Rattle.psg_defcheck.specs.Scopes.{list_names}
use Rattle.psg_defcheck.proofs.CheckLaws.{is-there, is-placed, few-list_names, list-named}
use Rattle.psg_defcheck.proofs.checked_lines.CheckedLines.list.Goals as goal

pub number-requires-clause-there : goal.number-requires-clause-there
number-requires-clause-there c =
    is-there c.self.inside.names.lists _ (list_names c.args.self.now) c.self.invariant.names.lists (ap list_names c.self.view_is) c.args.name.now (list-named c.args.self.now c.args.name.now c.requires)

pub number-requires-clause-few : goal.number-requires-clause-few
number-requires-clause-few c = few-list_names c.self.inside.names.lists c.self.inside.entries.now c.self.invariant.names.lists c.self.invariant.few

pub returns : goal.returns
returns c = is-placed c.self.inside.names.lists _ (list_names c.args.self.now) c.self.invariant.names.lists (ap list_names c.self.view_is) c.args.name.now c.number.result c.number.ensures
