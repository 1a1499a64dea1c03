use Rattle.std.proofs.Common.{arith}
use Rattle.psg_scope.specs.Headers.{key_of}
use Rattle.psg_scope.proofs.RunLaws.{all_under}
use Rattle.psg_scope.proofs.merging.below.Goals as goal

pub loop-low-preserved-in-Less : goal.loop-low-preserved-in-Less
loop-low-preserved-in-Less c = record {
  in_order = omega arith;
  within = omega arith;
  under = all_under (key_of c.args.key.now) c.args.cols.now _ c.index-cols-middle.result c.requires (omega arith)
      c.index-cols-middle.is c.in-Less.ensures;
}
