use Rattle.std.proofs.Common.{◌≡◌, ap, sym, ◌∙◌, arith}
use Rattle.std.proofs.lemmas.Bool.Decides.{nat_tests}
use Rattle.psg_relation.specs.Heavy.{highest_in}
use Rattle.psg_relation.proofs.beside.is_closed_row.Goals as goal

pub returns : goal.returns
returns c = λ t. let none : c.row_above.result ≡ 0 = grind (arith, nat_tests) in ap highest_in (sym c.as_slice.ensures.value) ∙ sym c.row_above.ensures ∙ none
