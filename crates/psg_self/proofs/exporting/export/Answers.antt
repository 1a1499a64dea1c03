use Rattle.std.proofs.Common.{sym, ◌∙◌}
use Rattle.psg_grammar.specs.declared.types.Kind.TheVariants as kinds
use Rattle.psg_self.proofs.PlacedOpen.{first-open-is, complete-is}
use Rattle.psg_self.proofs.exporting.export.Goals as goal

pub returns-in-Some-clause-err : goal.returns-in-Some-clause-err
returns-in-Some-clause-err c =
    first-open-is c.args.language.now c.args.tree.now c.in-Some.path (sym c.in-Some.is ∙ c.in_ok-path.ensures)

pub returns-in_ok-text-in-None-clause-complete : goal.returns-in_ok-text-in-None-clause-complete
returns-in_ok-text-in-None-clause-complete c =
    complete-is c.args.language.now c.args.tree.now (kinds.List 0) c.requires.formed (sym c.in-None.is ∙ c.in_ok-path.ensures)
