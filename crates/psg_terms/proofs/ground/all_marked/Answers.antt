use Rattle.std.proofs.lemmas.Bool.{false≢true}
use Rattle.psg_terms.proofs.Marking.{below-at, marked-at, marked-step, read-at, not_marked}
use Rattle.psg_terms.proofs.ground.all_marked.Goals as goal

pub bounds-marks-s : goal.bounds-marks-s
bounds-marks-s c = below-at _ c.args.sorts.now c.loop-s.s-index (record { 0 = 0 }) c.requires c.loop-s-test.true

pub returns-then-not-marks-s : goal.returns-then-not-marks-s
returns-then-not-marks-s c = (
  λ h. absurd (false≢true h),
  λ m. absurd (not_marked c.args.marks.now _ _ c.if-not-marks-s.true (marked-at c.args.marks.now c.args.sorts.now c.loop-s.s-index (record { 0 = 0 }) m c.loop-s-test.true)),
)

pub loop-s-preserved : goal.loop-s-preserved
loop-s-preserved c =
    marked-step c.args.marks.now c.args.sorts.now c.loop-s.s-index (record { 0 = 0 }) c.loop-s.invariant c.loop-s-test.true
    (read-at c.args.marks.now _ _ _ (below-at _ c.args.sorts.now c.loop-s.s-index (record { 0 = 0 }) c.requires c.loop-s-test.true) c.if-not-marks-s.false)
