use Rattle.std.proofs.Common.{ap, length, sym, ◌∙◌}
use Rattle.psg_lint.specs.Wrongs.{list_path}
use Rattle.psg_lint.proofs.TellLaws.{list_of_last, list_of_none}
use Rattle.psg_lint.proofs.blaming.list_of.Goals as goal

pub returns-in-Some : goal.returns-in-Some
returns-in-Some c = sym (ap list_path (sym c.steps.ensures ∙ c.in-Some.ensures.cases.0) ∙ list_of_last c.in-Some.list.now _)

pub returns-in-None : goal.returns-in-None
returns-in-None c = sym (list_of_none c.args.element.now (ap length (sym c.steps.ensures) ∙ c.in-None.ensures.cases))
