use Rattle.std.proofs.Common.{◌≡◌, ℕ, Some, slice_get, sym, ap, ◌∙◌, subst, arith, length}
use Rattle.psg_terms.proofs.Lists.{slice_get_item}
use Rattle.psg_grammar.specs.declared.types.Row.{Row}
use Rattle.psg_grammar.specs.declared.types.ListKind.{ListKind}
use Rattle.psg_completions.specs.Covered.{IsCoveredCell}
use Rattle.psg_covering.specs.Pairs.{Finds}
use Rattle.psg_covering.specs.Rows.{IsCellCovered}
use Rattle.psg_covering.proofs.Firsts.{next}
use Rattle.psg_covering.proofs.PairLaws.{pair_first, pair_held, pair_none}
use Rattle.psg_covering.proofs.uncovered.first_uncovered_cell.Goals as goal

pub returns-in-Some : goal.returns-in-Some
returns-in-Some c =
    let def = c.args.definition.now in
    let Q = (λ (n : ℕ) (list : ListKind) (k : ℕ). (row : Row) → slice_get list.cell_rows k ≡ Some row → IsCellCovered def n list row) in
    let at = ap (λ l. slice_get l c.loop-number.number) (sym c.as_slice-lists.ensures) ∙ slice_get_item c.as_slice-lists.result.now c.loop-number.number c.index-lists-number.result c.loop-number-test.true c.index-lists-number.is in
    pair_first def.lists Q c.loop-number.number c.index-lists-number.result c.in-Some.row at (subst (Finds (Q c.loop-number.number c.index-lists-number.result)) c.in-Some.is c.in_ok-row.ensures) c.loop-number.invariant

pub loop-number-preserved : goal.loop-number-preserved
loop-number-preserved c =
    let def = c.args.definition.now in
    let Q = (λ (n : ℕ) (list : ListKind) (k : ℕ). (row : Row) → slice_get list.cell_rows k ≡ Some row → IsCellCovered def n list row) in
    let at = ap (λ l. slice_get l c.loop-number.number) (sym c.as_slice-lists.ensures) ∙ slice_get_item c.as_slice-lists.result.now c.loop-number.number c.index-lists-number.result c.loop-number-test.true c.index-lists-number.is in
    next (λ m. (k : ℕ) → IsCoveredCell def m k) c.loop-number.number
    (pair_held def.lists Q c.loop-number.number c.index-lists-number.result at (subst (Finds (Q c.loop-number.number c.index-lists-number.result)) c.in_default.is c.in_ok-row.ensures)) c.loop-number.invariant

pub returns : goal.returns
returns c =
    let def = c.args.definition.now in
    let Q = (λ (n : ℕ) (list : ListKind) (k : ℕ). (row : Row) → slice_get list.cell_rows k ≡ Some row → IsCellCovered def n list row) in
    pair_none def.lists Q c.loop-number.number (let same = ap length c.as_slice-lists.ensures in omega (arith, c.loop-number-test.false, same)) c.loop-number.invariant
