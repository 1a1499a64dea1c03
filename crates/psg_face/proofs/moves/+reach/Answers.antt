use Rattle.std.proofs.Common.{length, ap, arith}
use Rattle.psg_face.proofs.moves.+reach.Goals as goal

pub reach-count-requires : goal.reach-count-requires
reach-count-requires t c = let e = ap length c.in-Some.ensures.cases.0 in (omega arith, tt)
