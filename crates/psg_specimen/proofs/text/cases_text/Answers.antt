use Rattle.std.proofs.Common.{[], ◌∷◌}
use Rattle.std.specs.Prelude.{codes}
use Rattle.psg_specimen.proofs.text.cases_text.Goals as goal

pub returns : goal.returns
returns c = c.in_ok-add_number.ensures (codes "Cases" ∷ codes "hole" ∷ []) c.in_ok-text.ensures
