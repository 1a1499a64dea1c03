use Rattle.std.proofs.Common.{ap, sym, ◌∙◌}
use Rattle.psg_defcheck.specs.Scopes.{constructor_names}
use Rattle.psg_defcheck.proofs.CheckLaws.{is-there, is-placed, constructor-named}
use Rattle.psg_defcheck.proofs.checked_lines.CheckedLines.constructor.Goals as goal

pub place-requires : goal.place-requires
place-requires c =
    is-there c.self.inside.names.constructors _ (constructor_names c.args.self.now) c.self.invariant.names.constructors (ap constructor_names c.self.view_is) c.args.name.now (sym (constructor-named c.args.self.now c.args.name.now) ∙ c.requires)

pub returns : goal.returns
returns c = is-placed c.self.inside.names.constructors _ (constructor_names c.args.self.now) c.self.invariant.names.constructors (ap constructor_names c.self.view_is) c.args.name.now c.place.result c.place.ensures
