use Rattle.std.proofs.Common.{◌≡◌, sym, ◌∙◌, arith}
use Rattle.psg_relation.proofs.settling.is_closed_term.Goals as goal

pub returns : goal.returns
returns c = λ _. let none : c.above.result ≡ 0 = let z = c.if-above-gt0.false in grind arith in sym c.above.ensures ∙ none
