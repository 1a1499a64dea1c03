use Rattle.psg_covering.proofs.IndexLaws.{AreLed}
use Rattle.psg_covering.proofs.index.with_heads.Given as goal

abbrev pub invariant-loop-i : goal.invariant-loop-i
invariant-loop-i l = AreLed l.con l.args l.i l.front.items
