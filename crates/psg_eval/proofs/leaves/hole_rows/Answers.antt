use Rattle.std.proofs.Common.{sym, subst, ◌∙◌, ◌+◌, take, true≢false, arith}
use Rattle.std.proofs.lemmas.List.{take_all}
use Rattle.psg_eval.proofs.LeafRows.{AreOfKind, of_all, of_less, of_more, of_none}
use Rattle.psg_eval.proofs.leaves.hole_rows.Goals as goal
use Rattle.psg_eval.proofs.leaves.hole_rows.Goals.{then-is_kind+in_ok-row_of_one+in_ok-push, else-is_kind}

pub loop-row-init : goal.loop-row-init
loop-row-init c = subst (AreOfKind (take 0 c.as_slice-row-items.result.now) c.args.kind) (sym c.new-rows.ensures.items) (of_none c.args.kind)

pub loop-row-preserved : goal.loop-row-preserved
loop-row-preserved c =
    let hs = c.as_slice-row-items.result.now in
    let i = c.loop-row.row-index in
    let h = c.row-item.result in
    elim c.if-is_kind.branch [
      | then-is_kind+in_ok-row_of_one+in_ok-push w ↦
          subst (λ rows. AreOfKind (take (i + 1) hs) c.args.kind rows.items) (sym w.rows-is)
          (of_more hs c.args.kind c.loop-row.rows.items w.push.new.self.items i h w.in_ok-row_of_one.field-0 c.loop-row-test.true c.row-item.is c.loop-row.invariant (c.is_kind.ensures.0 w.if-is_kind.true) w.in_ok-row_of_one.ensures w.in_ok-push.ensures.items)
      | else-is_kind w ↦
          subst (λ rows. AreOfKind (take (i + 1) hs) c.args.kind rows.items) (sym w.rows-is)
          (of_less hs c.args.kind c.loop-row.rows.items i h c.loop-row-test.true c.row-item.is c.loop-row.invariant (λ e. absurd (true≢false (sym (c.is_kind.ensures.1 e) ∙ w.if-is_kind.false))))
    ]

pub returns : goal.returns
returns c =
    let hs = c.as_slice-row-items.result.now in
    of_all c.args.definition.now hs c.args.kind c.loop-row.rows.items c.as_slice-row-items.ensures
    (subst (λ x. AreOfKind x c.args.kind c.loop-row.rows.items) (take_all c.loop-row.row-index hs (omega arith)) c.loop-row.invariant)
