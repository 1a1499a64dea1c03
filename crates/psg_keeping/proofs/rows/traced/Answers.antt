use Rattle.std.proofs.Common.{◌-◌, ◌++◌, inl, inr, sym, ap, ◌∙◌, subst, arith}
use Rattle.std.specs.Prelude.{replicate}
use Rattle.psg_keeping.specs.declared.pairing.Step.TheVariants as steps
use Rattle.psg_keeping.specs.Pairing.{ArePairs, IsMost}
use Rattle.psg_keeping.specs.Rows.{end_of}
use Rattle.psg_keeping.proofs.CellLaws.{step_next}
use Rattle.psg_keeping.proofs.RowLaws.{GoesOn, walk_on, walked_most, walked_pairs}
use Rattle.psg_keeping.proofs.rows.traced.Goals.{then-walk-test+else-theirs-gt0, else-walk-test}
use Rattle.psg_keeping.proofs.rows.traced.Goals as goal

pub walk-preserved : goal.walk-preserved
walk-preserved c =
    let old = c.args.old.now in
    let new = c.args.new.now in
    let g = c.walk.invariant in (
      subst (λ l. GoesOn old new (end_of (c.walk.own - c.old_in-own.result) old) (end_of (c.walk.theirs - c.new_in-theirs.result) new) l)
          (sym c.in_ok-push.ensures.items)
          (walk_on old new c.walk.steps.items c.walk.own c.walk.theirs (c.walk.own - c.old_in-own.result)
          (c.walk.theirs - c.new_in-theirs.result) c.index-old-old.result c.index-new-new.result c.next_step-step.result c.walk-test.true
          g.1 c.if-theirs-gt0.true g.2 c.index-old-old.is c.index-new-new.is g.0
          (step_next old new c.args.rows.now c.walk.own c.walk.theirs c.value-without.result c.value-with.result c.index-old-old.result
          c.index-new-new.result c.next_step-step.result c.requires c.walk-test.true g.1 c.if-theirs-gt0.true g.2 c.index-old-old.is
          c.index-new-new.is c.value-without.ensures c.value-with.ensures c.next_step-step.ensures)
          (ap (λ k. c.walk.own - k) c.old_in-own.ensures) (ap (λ k. c.walk.theirs - k) c.new_in-theirs.ensures)),
      omega (arith, g.1),
      omega (arith, g.2),
    )

pub returns-clause-pairs : goal.returns-clause-pairs
returns-clause-pairs c =
    let g = c.walk.invariant in
    subst (λ l. ArePairs c.args.old.now c.args.new.now l)
    (sym (c.in_ok-push_steps-2.ensures ∙ ap (λ l. l ++ replicate c.walk.theirs steps.New) c.in_ok-push_steps.ensures))
    (walked_pairs c.args.old.now c.args.new.now c.walk.steps.items c.walk.own c.walk.theirs g.1 g.2 g.0)

pub returns-clause-most : goal.returns-clause-most
returns-clause-most c =
    let g = c.walk.invariant in
    subst (λ l. IsMost c.args.old.now c.args.new.now l)
    (sym (c.in_ok-push_steps-2.ensures ∙ ap (λ l. l ++ replicate c.walk.theirs steps.New) c.in_ok-push_steps.ensures))
    (walked_most c.args.old.now c.args.new.now c.walk.steps.items c.walk.own c.walk.theirs g.1 g.2 g.0
    (elim c.walk-test.branch [
      | then-walk-test+else-theirs-gt0 w ↦ inr (omega (arith, w.if-theirs-gt0.false))
      | else-walk-test w ↦ inl (omega (arith, w.walk-test.false))
    ]))
