use Rattle.std.proofs.Common.{arith}
use Rattle.psg_script.proofs.NumberLemmas.{none_up_to}
use Rattle.psg_script.proofs.fields.read_up_to.Goals as goal
use Rattle.psg_script.proofs.fields.read_up_to.Goals.{else-number-ge1-via-then-number-ge1+else-number-most, else-number-ge1-via-else-number-ge1}

pub returns-else-number-ge1 : goal.returns-else-number-ge1
returns-else-number-ge1 c =
    none_up_to c.args.most c.in_ok-number.number c.args.word.now c.in_ok-number.ensures
    (λ low high. elim c.else-number-ge1.branch [
      | else-number-ge1-via-then-number-ge1+else-number-most w ↦ omega arith
      | else-number-ge1-via-else-number-ge1 w ↦ omega arith
    ])
