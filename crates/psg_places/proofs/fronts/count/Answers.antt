use Rattle.std.proofs.Common.{arith}
use Rattle.psg_places.proofs.FrontLaws.{counted_name, counted_all}
use Rattle.psg_places.proofs.fronts.count.Goals as goal

pub loop-name-preserved : goal.loop-name-preserved
loop-name-preserved c = record {
  exact =
      counted_name c.args.front.now c.args.names.now c.loop-name.name-index c.name-item.result c.begins-so.result
      c.loop-name.total c.one_if-more.result c.loop-name-test.true c.name-item.is c.loop-name.invariant.exact
      c.begins-so.ensures c.one_if-more.ensures.exact;
  few = omega (arith, c.loop-name.invariant.few, c.one_if-more.ensures.small);
}

pub returns : goal.returns
returns c =
    counted_all c.args.front.now c.args.names.now c.loop-name.name-index c.loop-name.total c.loop-name-test.false
    c.loop-name.invariant.exact
