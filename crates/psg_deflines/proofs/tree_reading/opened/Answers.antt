use Rattle.std.proofs.Common.{refl, arith}
use Rattle.psg_deflines.proofs.TreeStageLaws.{frame-open}
use Rattle.psg_deflines.proofs.tree_reading.opened.Goals as goal

pub returns : goal.returns
returns c = λ fs h. frame-open c.args.trees _ c.args.frame fs c.len.result h c.in_ok-push.ensures.items (omega (arith, c.len.ensures, c.args.trees.frames.ok.0)) refl
