use Rattle.std.proofs.Common.{◌≡◌, sym, ◌∙◌, arith}
use Rattle.psg_relation.proofs.forcing.may_force.Goals as goal

pub returns : goal.returns
returns c = λ t. let none : c.above.result ≡ 0 = let z = c.if-above-gt0.false in grind arith in (c.has_sort.ensures.0 t, sym c.above.ensures ∙ none)
