use Rattle.std.proofs.Common.{ap, sym, ◌∙◌}
use Rattle.psg_defcheck.specs.Scopes.{operator_names}
use Rattle.psg_defcheck.proofs.CheckLaws.{is-there, is-placed, few-operator_names, operator-named}
use Rattle.psg_defcheck.proofs.checked_lines.CheckedLines.operator.Goals as goal

pub number-requires-clause-there : goal.number-requires-clause-there
number-requires-clause-there c =
    is-there c.self.inside.names.operators _ (operator_names c.args.self.now) c.self.invariant.names.operators (ap operator_names c.self.view_is) c.args.name.now (sym (operator-named c.args.self.now c.args.name.now) ∙ c.requires)

pub number-requires-clause-few : goal.number-requires-clause-few
number-requires-clause-few c = few-operator_names c.self.inside.names.operators c.self.inside.entries.now c.self.invariant.names.operators c.self.invariant.few

pub returns : goal.returns
returns c = is-placed c.self.inside.names.operators _ (operator_names c.args.self.now) c.self.invariant.names.operators (ap operator_names c.self.view_is) c.args.name.now c.number.result c.number.ensures
