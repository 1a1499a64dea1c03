use Rattle.std.proofs.Common.{[], ◌∷◌, ◌++◌, ap, ◌∙◌, append_assoc}
use Rattle.std.specs.Prelude.{codes, decimal}
use Rattle.psg_specimen.specs.Texts.{line, site_words}
use Rattle.psg_specimen.proofs.text.place_text.Goals as goal

pub returns : goal.returns
returns c =
    let front = c.args.condition.now ∷ site_words c.args.site in
    c.in_ok-add_number.ensures (front ++ codes "place" ∷ []) (c.in_ok-add.ensures front c.in_ok-text.ensures)
    ∙ ap line (ap (λ x. c.args.condition.now ∷ x) (append_assoc (site_words c.args.site) (codes "place" ∷ []) (decimal c.args.place ∷ [])))
