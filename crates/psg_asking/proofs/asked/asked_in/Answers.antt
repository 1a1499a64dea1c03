use Rattle.std.proofs.Common.{ap, ◌∙◌}
use Rattle.psg_asking.specs.Asked.{spot_there, without_note}
use Rattle.psg_asking.proofs.AskedLaws.{asked_repair, program_is, repaired_program, there_is}
use Rattle.psg_asking.proofs.asked.asked_in.Goals as goal

pub returns-in_ok-there-in-Some-clause-asked : goal.returns-in_ok-there-in-Some-clause-asked
returns-in_ok-there-in-Some-clause-asked c =
    λ def tree wrong is. asked_repair def tree c.args.spot.now c.args.repair.now c.in-Some.note _
    c.in_ok-there-in-Some.there wrong is c.in-Some.is
    (c.in_ok-there-in-Some.ensures ∙ ap (λ b. spot_there b c.args.spot.now) c.as_slice.ensures.value)
    (there_is _ c.in_ok-there-in-Some.there _ c.asked_by-asked.ensures)

pub returns-in_ok-there-in-Some-clause-program : goal.returns-in_ok-there-in-Some-clause-program
returns-in_ok-there-in-Some-clause-program c =
    λ def tree kind is formed printable. program_is _ def kind c.in_ok-there-in-Some.there _ c.asked_by-asked.ensures
    (repaired_program def tree kind c.args.repair.now c.in-Some.note is c.in-Some.is formed printable)

pub returns-in-None-clause-asked : goal.returns-in-None-clause-asked
returns-in-None-clause-asked c = λ def tree wrong is. without_note wrong c.args.repair.now is c.in-None.is
