use Rattle.std.proofs.Common.{◌≡◌, ℕ, Some, slice_get, sym, ap, ◌∙◌, subst, arith, length}
use Rattle.psg_terms.proofs.Lists.{slice_get_item}
use Rattle.psg_grammar.specs.declared.types.Row.{Row}
use Rattle.psg_grammar.specs.declared.types.Operator.{Operator}
use Rattle.psg_completions.specs.Covered.{IsCoveredRow}
use Rattle.psg_covering.specs.Pairs.{Finds}
use Rattle.psg_covering.specs.Rows.{IsRowCovered}
use Rattle.psg_covering.proofs.Firsts.{next}
use Rattle.psg_covering.proofs.PairLaws.{pair_first, pair_held, pair_none}
use Rattle.psg_covering.proofs.uncovered.first_uncovered_row.Goals as goal

pub returns-in-Some : goal.returns-in-Some
returns-in-Some c =
    let def = c.args.definition.now in
    let Q = (λ (n : ℕ) (op : Operator) (k : ℕ). (row : Row) → slice_get op.rows k ≡ Some row → IsRowCovered def op row) in
    let at = ap (λ l. slice_get l c.loop-number.number) (sym c.as_slice-operators.ensures) ∙ slice_get_item c.as_slice-operators.result.now c.loop-number.number c.index-operators-number.result c.loop-number-test.true c.index-operators-number.is in
    pair_first def.operators Q c.loop-number.number c.index-operators-number.result c.in-Some.row at (subst (Finds (Q c.loop-number.number c.index-operators-number.result)) c.in-Some.is c.in_ok-row.ensures) c.loop-number.invariant

pub loop-number-preserved : goal.loop-number-preserved
loop-number-preserved c =
    let def = c.args.definition.now in
    let Q = (λ (n : ℕ) (op : Operator) (k : ℕ). (row : Row) → slice_get op.rows k ≡ Some row → IsRowCovered def op row) in
    let at = ap (λ l. slice_get l c.loop-number.number) (sym c.as_slice-operators.ensures) ∙ slice_get_item c.as_slice-operators.result.now c.loop-number.number c.index-operators-number.result c.loop-number-test.true c.index-operators-number.is in
    next (λ m. (k : ℕ) → IsCoveredRow def m k) c.loop-number.number
    (pair_held def.operators Q c.loop-number.number c.index-operators-number.result at (subst (Finds (Q c.loop-number.number c.index-operators-number.result)) c.in_default.is c.in_ok-row.ensures)) c.loop-number.invariant

pub returns : goal.returns
returns c =
    let def = c.args.definition.now in
    let Q = (λ (n : ℕ) (op : Operator) (k : ℕ). (row : Row) → slice_get op.rows k ≡ Some row → IsRowCovered def op row) in
    pair_none def.operators Q c.loop-number.number (let same = ap length c.as_slice-operators.ensures in omega (arith, c.loop-number-test.false, same)) c.loop-number.invariant
