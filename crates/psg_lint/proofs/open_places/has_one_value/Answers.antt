use Rattle.std.proofs.Common.{ap, sym, ◌∙◌}
use Rattle.psg_terms.specs.Kept.{number_in}
use Rattle.psg_lint.specs.OpenPlaces.{is_there}
use Rattle.psg_lint.proofs.open_places.has_one_value.Goals as goal

pub returns-in-Some : goal.returns-in-Some
returns-in-Some c = sym (ap is_there (sym c.constant_of.ensures ∙ ap number_in c.in-Some.is))

pub returns-in-None : goal.returns-in-None
returns-in-None c = sym (ap is_there (sym c.constant_of.ensures ∙ ap number_in c.in-None.is))
