use Rattle.std.proofs.Common.{◌≡◌, [], ◌∷◌, IfOk, sym, subst}
use Rattle.std.specs.Prelude.{codes, decimal, string_bytes}
use Rattle.psg_specimen.specs.Texts.{line, refusal_text}
use Rattle.psg_specimen.proofs.text.accept_text.Goals as goal

pub returns-in-UncoveredCell : goal.returns-in-UncoveredCell
returns-in-UncoveredCell c =
    let text = c.row_text-in-UncoveredCell.result in
    subst (λ f. IfOk text (λ t. string_bytes t ≡ refusal_text c.args.refused.now.definition f)) (sym c.in-UncoveredCell.is)
    (subst (λ n. IfOk text (λ t. string_bytes t ≡ line (codes "Uncovered" ∷ n ∷ codes "cell" ∷ decimal c.in-UncoveredCell.row ∷ [])))
    c.list_text-in-UncoveredCell.ensures c.row_text-in-UncoveredCell.ensures)
