use Rattle.std.proofs.Common.{◌≡◌, sym, ◌∙◌, arith}
use Rattle.std.proofs.lemmas.Bool.Decides.{nat_tests}
use Rattle.psg_relation.proofs.beside.is_closed_slice.Goals as goal

pub returns : goal.returns
returns c = λ t. let none : c.row_above.result ≡ 0 = grind (arith, nat_tests) in sym c.row_above.ensures ∙ none
