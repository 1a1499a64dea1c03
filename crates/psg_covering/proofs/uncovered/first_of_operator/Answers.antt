use Rattle.std.proofs.Common.{length, refl, slice_get, sym, ap, ◌∙◌, arith, true≢false}
use Rattle.psg_terms.proofs.Lists.{each_at, slice_get_item}
use Rattle.psg_grammar.specs.Sound.{IsRow}
use Rattle.psg_covering.specs.Rows.{IsRowCovered}
use Rattle.psg_covering.proofs.Firsts.{all, more}
use Rattle.psg_covering.proofs.uncovered.first_of_operator.Goals as goal

pub is_row_covered-requires-clause-row : goal.is_row_covered-requires-clause-row
is_row_covered-requires-clause-row c =
    let at = ap (λ l. slice_get l c.loop-number.number) (sym c.as_slice-rows.ensures) ∙ slice_get_item c.as_slice-rows.result.now c.loop-number.number c.index-rows-number.result c.loop-number-test.true c.index-rows-number.is in
    let o = c.requires.operator in (o, each_at (IsRow c.args.definition.now o.sort o.columns) c.args.operator.now.rows o.each_row c.loop-number.number c.index-rows-number.result at)

pub returns-then-not-branch : goal.returns-then-not-branch
returns-then-not-branch c =
    let at = ap (λ l. slice_get l c.loop-number.number) (sym c.as_slice-rows.ensures) ∙ slice_get_item c.as_slice-rows.result.now c.loop-number.number c.index-rows-number.result c.loop-number-test.true c.index-rows-number.is in (
      λ h. true≢false (sym (c.in_ok-is_row_covered.ensures.1 (h c.index-rows-number.result at)) ∙ c.if-not-branch.true),
      λ m lt row there. c.loop-number.invariant m lt row (ap (λ l. slice_get l m) c.as_slice-rows.ensures ∙ there),
    )

pub loop-number-preserved : goal.loop-number-preserved
loop-number-preserved c =
    more c.as_slice-rows.result.now (IsRowCovered c.args.definition.now c.args.operator.now) c.loop-number.number c.index-rows-number.result c.loop-number-test.true c.index-rows-number.is
    (c.in_ok-is_row_covered.ensures.0 c.if-not-branch.false) c.loop-number.invariant

pub returns : goal.returns
returns c k row there =
    all c.as_slice-rows.result.now (IsRowCovered c.args.definition.now c.args.operator.now) (length c.as_slice-rows.result.now) refl (λ m lt. c.loop-number.invariant m (omega (arith, lt, c.loop-number-test.false))) k row
    (ap (λ l. slice_get l k) c.as_slice-rows.ensures ∙ there)
