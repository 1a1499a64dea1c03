use Rattle.std.proofs.Common.{length}
use Rattle.psg_textedit.specs.Jobs.{IsJob}
use Rattle.psg_textedit.proofs.Widening.{IsWidened}
use Rattle.psg_textedit.proofs.typing.widen.Given as goal

abbrev pub invariant-nodes : goal.invariant-nodes
invariant-nodes g l = (ok : IsJob l.job) → IsWidened l.job ok l.first l.path l.fn.steps l.steps

abbrev pub decreases-nodes : goal.decreases-nodes
decreases-nodes g l = length l.path
