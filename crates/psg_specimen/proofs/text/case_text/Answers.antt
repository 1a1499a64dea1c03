use Rattle.std.proofs.Common.{[], ◌∷◌, ◌++◌}
use Rattle.std.specs.Prelude.{codes, decimal}
use Rattle.psg_specimen.proofs.text.case_text.Goals as goal

pub returns : goal.returns
returns c =
    let front = c.args.condition.now ∷ codes "hole" ∷ [] in
    let more = front ++ decimal c.args.row ∷ [] in
    c.in_ok-add_number-2.ensures (more ++ codes "case" ∷ []) (c.in_ok-add.ensures more (c.in_ok-add_number.ensures front c.in_ok-text.ensures))
