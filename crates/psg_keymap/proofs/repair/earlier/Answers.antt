use Rattle.std.proofs.Common.{arith}
use Rattle.psg_places.proofs.WayLaws.{counted_place, counted_places}
use Rattle.psg_keymap.proofs.repair.earlier.Goals as goal

pub loop-place-preserved : goal.loop-place-preserved
loop-place-preserved c = record {
  exact =
      counted_place c.args.path.now c.args.many c.args.blamed.now c.loop-place.place-index c.place-item.result
      c.is_earlier-so.result
      c.loop-place.total c.one_if-more.result c.loop-place-test.true c.place-item.is c.loop-place.invariant.exact
      c.is_earlier-so.ensures c.one_if-more.ensures.exact;
  few = omega (arith, c.loop-place.invariant.few, c.one_if-more.ensures.small);
}

pub returns : goal.returns
returns c =
    counted_places c.args.path.now c.args.many c.args.blamed.now c.loop-place.place-index c.loop-place.total
    c.loop-place-test.false
    c.loop-place.invariant.exact
