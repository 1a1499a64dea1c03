use Rattle.std.proofs.Common.{[], ◌∷◌, ◌++◌}
use Rattle.std.specs.Prelude.{codes}
use Rattle.psg_specimen.proofs.text.declaring_text.Goals as goal

pub returns : goal.returns
returns c =
    let front = codes "Declaring" ∷ c.args.operator.now ∷ [] in
    c.in_ok-add_number.ensures (front ++ codes "slot" ∷ []) (c.in_ok-add.ensures front c.in_ok-text.ensures)
