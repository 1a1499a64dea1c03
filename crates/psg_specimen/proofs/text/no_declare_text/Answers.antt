use Rattle.std.proofs.Common.{[], ◌∷◌, ◌++◌, ap₂, ◌∙◌}
use Rattle.std.specs.Prelude.{codes}
use Rattle.psg_specimen.specs.Texts.{line, space_words}
use Rattle.psg_specimen.proofs.text.no_declare_text.Goals as goal

pub returns : goal.returns
returns c =
    let front = codes "NoDeclare" ∷ c.list_text.result.now ∷ [] in
    let spaced = front ++ space_words c.args.definition.now c.args.space in
    c.in_ok-add.ensures spaced (c.in_ok-add_space.ensures front c.in_ok-text.ensures)
    ∙ ap₂ (λ l k. line (codes "NoDeclare" ∷ l ∷ (space_words c.args.definition.now c.args.space ++ k ∷ []))) c.list_text.ensures c.constructor_name.ensures
