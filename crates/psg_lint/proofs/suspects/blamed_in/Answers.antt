use Rattle.std.proofs.Common.{arith}
use Rattle.psg_places.proofs.ListingLaws.{blamed_all, blamed_counted}
use Rattle.psg_lint.proofs.suspects.blamed_in.Goals as goal

pub loop-i-preserved : goal.loop-i-preserved
loop-i-preserved c = record {
  exact =
      blamed_counted c.args.kept.now c.loop-i.i c.is_blamed-blamed.result c.loop-i.total c.one_if-more.result
      c.loop-i-test.true c.is_blamed-blamed.ensures c.one_if-more.ensures.exact c.loop-i.invariant.exact;
  few = omega (arith, c.loop-i.invariant.few, c.one_if-more.ensures.small);
}

pub returns : goal.returns
returns c = blamed_all c.args.kept.now c.loop-i.i c.loop-i.total c.loop-i-test.false c.loop-i.invariant.exact
