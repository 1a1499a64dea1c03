use Rattle.std.proofs.Common.{◌+◌, take, sym, subst, ◌∙◌, ap, slice_get}
use Rattle.psg_terms.specs.Kept.{symbols_of}
use Rattle.psg_terms.specs.Marks.{AllBelow}
use Rattle.psg_terms.proofs.Marking.{all_below-at, symbols-at, IsRound, round-marked, round-kept}
use Rattle.psg_terms.proofs.ground.mark_more.Goals as goal
use Rattle.psg_terms.proofs.ground.mark_more.Goals.{then-mark, else-mark}

pub mark-requires-clause-args : goal.mark-requires-clause-args
mark-requires-clause-args c =
    (all_below-at _ c.args.declared.now c.loop-d.d-index c.d-item.result (subst (λ n. AllBelow n (symbols_of c.args.declared.now)) (sym c.loop-d.auto.marks) c.requires) c.loop-d-test.true c.d-item.is).0

pub mark-requires-clause-sort : goal.mark-requires-clause-sort
mark-requires-clause-sort c =
    (all_below-at _ c.args.declared.now c.loop-d.d-index c.d-item.result (subst (λ n. AllBelow n (symbols_of c.args.declared.now)) (sym c.loop-d.auto.marks) c.requires) c.loop-d-test.true c.d-item.is).1

pub loop-d-preserved : goal.loop-d-preserved
loop-d-preserved c =
    let at = symbols-at c.args.declared.now c.loop-d.d-index c.d-item.result c.loop-d-test.true c.d-item.is in (
      λ sig e right. c.mark.ensures.right sig c.loop-d.d-index (ap (λ xs. slice_get xs c.loop-d.d-index) e ∙ at) (c.loop-d.invariant.0 sig e right),
      elim c.if-mark.branch [
        | then-mark w ↦ subst (λ b. IsRound b c.args.marks.now c.mark.new.marks (symbols_of (take (c.loop-d.d-index + 1) c.args.declared.now))) (sym w.more-is)
            (round-marked c.loop-d.more c.args.marks.now c.loop-d.marks c.mark.new.marks (symbols_of (take c.loop-d.d-index c.args.declared.now)) c.loop-d.invariant.1 w.if-mark.ensures.fewer)
        | else-mark w ↦ subst (λ b. IsRound b c.args.marks.now c.mark.new.marks (symbols_of (take (c.loop-d.d-index + 1) c.args.declared.now))) (sym w.more-is)
            (round-kept c.loop-d.more c.args.marks.now c.loop-d.marks c.mark.new.marks c.args.declared.now c.loop-d.d-index c.d-item.result c.loop-d.invariant.1 w.if-mark.ensures.same w.if-mark.ensures.keeps c.loop-d-test.true c.d-item.is)
      ],
    )
