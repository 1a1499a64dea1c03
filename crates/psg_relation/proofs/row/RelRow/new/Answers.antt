use Rattle.std.proofs.Common.{sym, ◌∙◌, subst}
use Rattle.psg_relation.specs.Heavy.{IsMeasured}
use Rattle.psg_relation.proofs.row.RelRow.new.Goals as goal

pub invariant_of-result : goal.invariant_of-result
invariant_of-result c =
    let m = c.measured-measures.result in
    subst (λ r. IsMeasured r m.symbols m.depth m.above) (c.as_slice.ensures.value ∙ sym c.of.ensures) c.measured-measures.ensures
