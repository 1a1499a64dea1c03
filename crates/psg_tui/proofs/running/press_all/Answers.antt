use Rattle.psg_tui.proofs.RunningLaws.{same_of, taken_end, taken_next, then_same}
use Rattle.psg_tui.proofs.running.press_all.Goals as goal

pub loop-number-init : goal.loop-number-init
loop-number-init g c = record { taken = λ end after t. t; same = same_of _ }

pub loop-number-preserved : goal.loop-number-preserved
loop-number-preserved g c =
    record {
      taken = λ end after t.
          c.loop-number.invariant.taken end after
          (taken_next c.args.strokes.now c.loop-number.number c.index-strokes-number.result c.loop-number-test.true
          c.index-strokes-number.is _ _ end _ _ after c.press_one.ensures.taken t);
      same = then_same _ _ _ c.loop-number.invariant.same c.press_one.ensures.same;
    }

pub returns-clause-taken : goal.returns-clause-taken
returns-clause-taken g c =
    c.loop-number.invariant.taken _ _ (taken_end c.args.strokes.now c.loop-number.number c.loop-number-test.false _ _)
