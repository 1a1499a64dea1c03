use Rattle.psg_explain.proofs.Theorem.{theorem}
use Rattle.psg_explain.proofs.laws.refuted_trees.Goals as goal

pub returns : goal.returns
returns c = λ def f r sound (kind, formed) refutes is_open. theorem def sound f kind r formed refutes is_open
