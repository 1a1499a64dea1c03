use Rattle.std.proofs.Common.{[], ◌∷◌, length, refl, slice_get, sym, ap, ◌∙◌, arith, true≢false}
use Rattle.psg_terms.proofs.Lists.{each_at, slice_get_item}
use Rattle.psg_grammar.specs.Sound.{IsRow}
use Rattle.psg_grammar.proofs.SoundParts.{list_sound}
use Rattle.psg_covering.specs.Rows.{IsCellCovered}
use Rattle.psg_covering.proofs.Firsts.{all, more}
use Rattle.psg_covering.proofs.uncovered.first_of_list.Goals as goal

pub is_cell_covered-requires-clause-row : goal.is_cell_covered-requires-clause-row
is_cell_covered-requires-clause-row c =
    let at = ap (λ l. slice_get l c.loop-cell.cell) (sym c.as_slice-rows.ensures) ∙ slice_get_item c.as_slice-rows.result.now c.loop-cell.cell c.index-rows-cell.result c.loop-cell-test.true c.index-rows-cell.is in
    let k = list_sound c.args.definition.now c.requires.sound c.args.number c.args.list.now c.requires.list in
    (k, each_at (IsRow c.args.definition.now c.args.list.now.sort.0 (k.element ∷ c.args.list.now.sort.0 ∷ [])) c.args.list.now.cell_rows k.cells c.loop-cell.cell c.index-rows-cell.result at)

pub overflow_cast-result : goal.overflow_cast-result
overflow_cast-result c =
    let few = (list_sound c.args.definition.now c.requires.sound c.args.number c.args.list.now c.requires.list).few_cells in
    let same = ap length c.as_slice-rows.ensures in
    let lt = c.loop-cell-test.true in omega (arith, few, same, lt)

pub returns-then-not-branch : goal.returns-then-not-branch
returns-then-not-branch c =
    let at = ap (λ l. slice_get l c.loop-cell.cell) (sym c.as_slice-rows.ensures) ∙ slice_get_item c.as_slice-rows.result.now c.loop-cell.cell c.index-rows-cell.result c.loop-cell-test.true c.index-rows-cell.is in (
      λ h. true≢false (sym (c.in_ok-is_cell_covered.ensures.1 (h c.index-rows-cell.result at)) ∙ c.if-not-branch.true),
      λ m lt row there. c.loop-cell.invariant m lt row (ap (λ l. slice_get l m) c.as_slice-rows.ensures ∙ there),
    )

pub loop-cell-preserved : goal.loop-cell-preserved
loop-cell-preserved c =
    more c.as_slice-rows.result.now (IsCellCovered c.args.definition.now c.args.number c.args.list.now) c.loop-cell.cell c.index-rows-cell.result c.loop-cell-test.true c.index-rows-cell.is
    (c.in_ok-is_cell_covered.ensures.0 c.if-not-branch.false) c.loop-cell.invariant

pub returns : goal.returns
returns c k row there =
    all c.as_slice-rows.result.now (IsCellCovered c.args.definition.now c.args.number c.args.list.now) (length c.as_slice-rows.result.now) refl (λ m lt. c.loop-cell.invariant m (omega (arith, lt, c.loop-cell-test.false))) k row
    (ap (λ l. slice_get l k) c.as_slice-rows.ensures ∙ there)
