use Rattle.std.proofs.Common.{refl, ap}
use Rattle.psg_deflines.specs.TreePieces.{frame_of}
use Rattle.psg_deflines.proofs.TreeStageLaws.{operator-filled}
use Rattle.psg_deflines.proofs.tree_reading.filled.Goals as goal

pub returns-in_ok-push-in-Operator : goal.returns-in_ok-push-in-Operator
returns-in_ok-push-in-Operator c =
    operator-filled c.args.frame _ c.args.tree c.in-Some.tree c.in-Operator.name c.in-Operator.parts.items c.push.new.self.items (ap frame_of c.in-Operator.is) c.in_ok-push-in-Operator.ensures.items refl c.in-Some.is
