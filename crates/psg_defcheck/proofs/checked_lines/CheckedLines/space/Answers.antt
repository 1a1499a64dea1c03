use Rattle.std.proofs.Common.{ap, sym, ◌∙◌}
use Rattle.psg_defcheck.specs.Scopes.{space_names}
use Rattle.psg_defcheck.proofs.CheckLaws.{is-there, is-placed, few-space_names, space-named}
use Rattle.psg_defcheck.proofs.checked_lines.CheckedLines.space.Goals as goal

pub number-requires-clause-there : goal.number-requires-clause-there
number-requires-clause-there c =
    is-there c.self.inside.names.spaces _ (space_names c.args.self.now) c.self.invariant.names.spaces (ap space_names c.self.view_is) c.args.name.now (sym (space-named c.args.self.now c.args.name.now) ∙ c.requires)

pub number-requires-clause-few : goal.number-requires-clause-few
number-requires-clause-few c = few-space_names c.self.inside.names.spaces c.self.inside.entries.now c.self.invariant.names.spaces c.self.invariant.few

pub returns : goal.returns
returns c = is-placed c.self.inside.names.spaces _ (space_names c.args.self.now) c.self.invariant.names.spaces (ap space_names c.self.view_is) c.args.name.now c.number.result c.number.ensures
