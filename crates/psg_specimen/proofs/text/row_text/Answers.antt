use Rattle.std.proofs.Common.{[], ◌∷◌, ◌++◌}
use Rattle.std.specs.Prelude.{codes}
use Rattle.psg_specimen.proofs.text.row_text.Goals as goal

pub returns : goal.returns
returns c =
    let front = codes "Uncovered" ∷ c.args.name.now ∷ [] in
    c.in_ok-add_number.ensures (front ++ c.args.rows.now ∷ []) (c.in_ok-add.ensures front c.in_ok-text.ensures)
