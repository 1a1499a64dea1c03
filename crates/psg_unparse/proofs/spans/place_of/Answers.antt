use Rattle.std.proofs.Common.{arith}
use Rattle.psg_unparse.proofs.spans.place_of.Goals as goal

pub halving-preserved : goal.halving-preserved
halving-preserved c =
    (omega (arith, c.halving.invariant.0, c.halved-least.ensures.within), c.halved-least.ensures.kept c.halving.invariant.1)
