use Rattle.std.proofs.Common.{◌≡◌, ◌+◌, arith}
use Rattle.psg_unparse.proofs.Adding.{adds-in}
use Rattle.psg_unparse.proofs.layout.Writer.put_in.Goals as goal

pub returns : goal.returns
returns c = let e : c.in-Some.levels ≡ c.args.self.now.levels + 1 = omega arith in adds-in c.args.self.now c.in-Some.levels e
