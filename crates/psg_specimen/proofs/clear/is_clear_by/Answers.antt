use Rattle.std.proofs.Common.{sym, ◌∙◌, true≢false}
use Rattle.psg_specimen.proofs.ClearLaws.{not_two, by_head, by_rest, by_instance, by_parts}
use Rattle.psg_specimen.proofs.clear.is_clear_by.Goals as goal

pub returns-then-columns-ne2 : goal.returns-then-columns-ne2
returns-then-columns-ne2 c = (
  λ h. absurd (true≢false (sym h)),
  λ by. absurd (not_two c.args.sig.now c.args.sort.0 c.args.row.now c.args.value.now c.as_slice-columns.result.now c.as_slice-columns.ensures c.if-columns-ne2.true by),
)

pub returns-then-not-same : goal.returns-then-not-same
returns-then-not-same c = (
  λ h. absurd (true≢false (sym h)),
  λ by. absurd (true≢false (sym (c.same.ensures.1 (by_head c.args.sig.now c.args.sort.0 c.args.row.now c.args.value.now c.as_slice-columns.result.now c.as_slice-columns.ensures c.if-columns-ne2.false
      c.index-columns-0.result c.index-columns-1.result c.index-columns-0.is c.index-columns-1.is by)) ∙ c.if-not-same.true)),
)

pub returns-then-not-is_rest : goal.returns-then-not-is_rest
returns-then-not-is_rest c = (
  λ h. absurd (true≢false (sym h)),
  λ by. absurd (true≢false (sym (c.is_rest.ensures.1 (by_rest c.args.sig.now c.args.sort.0 c.args.row.now c.args.value.now c.as_slice-columns.result.now c.as_slice-columns.ensures c.if-columns-ne2.false
      c.index-columns-0.result c.index-columns-1.result c.index-columns-0.is c.index-columns-1.is by)) ∙ c.if-not-is_rest.true)),
)

pub returns : goal.returns
returns c = (
  λ h. by_parts c.args.sig.now c.args.sort.0 c.args.row.now c.args.value.now c.as_slice-columns.result.now c.as_slice-columns.ensures c.if-columns-ne2.false
      c.index-columns-0.result c.index-columns-1.result c.index-columns-0.is c.index-columns-1.is
      (c.same.ensures.0 c.if-not-same.false) (c.is_rest.ensures.0 c.if-not-is_rest.false) (c.in_ok-made.ensures.0 h),
  λ by. c.in_ok-made.ensures.1 (by_instance c.args.sig.now c.args.sort.0 c.args.row.now c.args.value.now c.as_slice-columns.result.now c.as_slice-columns.ensures c.if-columns-ne2.false
      c.index-columns-0.result c.index-columns-1.result c.index-columns-0.is c.index-columns-1.is by),
)
