use Rattle.std.proofs.Common.{◌++◌, ◌∷◌, ap, ap₂, ◌∙◌}
use Rattle.std.specs.Prelude.{codes}
use Rattle.psg_lint.proofs.open_places.hole_text.Goals as goal

pub returns : goal.returns
returns c =
    c.in_ok-text.ensures.ok
    ∙ ap (λ n. 63 ∷ (n ++ (codes " is open" ++ (c.as_str-2.result.now ++ (codes ": " ++ c.as_str-3.result.now))))) c.as_str.ensures
    ∙ ap₂ (λ w m. 63 ∷ (c.args.phylum.now.name ++ (codes " is open" ++ (w ++ (codes ": " ++ m)))))
    (c.as_str-2.ensures.value ∙ c.in_ok-wanted.ensures) (c.as_str-3.ensures.value ∙ c.in_ok-names.ensures)
