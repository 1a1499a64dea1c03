use Rattle.std.proofs.Common.{refl}
use Rattle.psg_cache.specs.Annotated.{tree_in}
use Rattle.psg_asking.specs.Asked.{unknown}
use Rattle.psg_asking.proofs.AskedLaws.{known_with}
use Rattle.psg_asking.proofs.asked.asked_repaired.Goals as goal

pub returns-in_ok-asked-in-Some-clause-asked : goal.returns-in_ok-asked-in-Some-clause-asked
returns-in_ok-asked-in-Some-clause-asked c =
    λ def kind note k. let known = known_with def kind note _ _ c.in-Some.is k in
    c.in_ok-asked-in-Some.ensures.asked def (tree_in note) (k.not_right refl) (known.repair_is refl)

pub returns-in_ok-asked-in-Some-clause-program : goal.returns-in_ok-asked-in-Some-clause-program
returns-in_ok-asked-in-Some-clause-program c =
    λ def kind note k. let known = known_with def kind note _ _ c.in-Some.is k in
    c.in_ok-asked-in-Some.ensures.program def (tree_in note) kind (known.repair_is refl) k.program.formed
    k.program.printable

pub returns-in-None-clause-asked : goal.returns-in-None-clause-asked
returns-in-None-clause-asked c =
    λ def kind note k. let known = known_with def kind note _ _ c.in-None.is k in
    unknown (k.not_right refl) (known.repair_is refl)
