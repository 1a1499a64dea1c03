use Rattle.std.proofs.Common.{ℕ, length-drop, arith}
use Rattle.std.proofs.lemmas.List.{take_rest}
use Rattle.psg_world.proofs.SinkLaws.{take_more_known}
use Rattle.psg_world.proofs.whole.put_all.Goals as goal

pub loop-taken-preserved : goal.loop-taken-preserved
loop-taken-preserved g c = record {
  within = omega (arith, length-drop {A = ℕ}, c.in_ok-taken.ensures.within);
  put = take_more_known _ _ _ c.args.bytes.now _ _ c.loop-taken.invariant.put
      (rw take_rest at c.in_ok-taken.ensures.takes);
  counted = omega (arith, c.in_ok-taken.ensures.never_falls);
}
