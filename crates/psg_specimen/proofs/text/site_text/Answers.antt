use Rattle.std.proofs.Common.{[], ◌∷◌, sym, ap, ◌∙◌}
use Rattle.std.specs.Prelude.{codes}
use Rattle.psg_specimen.specs.Texts.{line, site_words}
use Rattle.psg_specimen.proofs.text.site_text.Goals as goal

pub returns-in_ok-add_number-in-Declare : goal.returns-in_ok-add_number-in-Declare
returns-in_ok-add_number-in-Declare c =
    c.in_ok-add_number-in-Declare.ensures (c.args.condition.now ∷ codes "declare" ∷ []) c.in_ok-text-in-Declare.ensures
    ∙ ap (λ s. line (c.args.condition.now ∷ site_words s)) (sym c.in-Declare.is)
