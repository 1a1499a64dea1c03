use Rattle.std.proofs.Common.{◌∷◌, ap, ◌∙◌}
use Rattle.psg_covering.specs.Slots.{slot_kinds, slot_terms}
use Rattle.psg_covering.proofs.RowLaws.{row_fits, row_test}
use Rattle.psg_covering.proofs.uncovered.is_row_covered.Goals as goal

pub is_covered-requires-clause-fits : goal.is_covered-requires-clause-fits
is_covered-requires-clause-fits c =
    row_fits c.args.definition.now c.args.operator.now c.args.row.now c.as_slice-2.result.now c.new.result c.requires.row
    (c.as_slice-2.ensures.value ∙ c.in_ok-slots.ensures ∙ ap slot_kinds c.as_slice-items.ensures)
    (c.new.ensures ∙ c.in_ok-terms.ensures ∙ ap (λ l. c.args.row.now.head ∷ slot_terms l c.as_slice.result.now) c.as_slice-items.ensures
    ∙ ap (λ l. c.args.row.now.head ∷ slot_terms c.args.operator.now.items l) c.as_slice.ensures)

pub returns : goal.returns
returns c =
    row_test c.args.definition.now c.args.operator.now c.args.row.now c.as_slice-2.result.now c.new.result c.in_ok-covered.covered c.requires.row
    (c.as_slice-2.ensures.value ∙ c.in_ok-slots.ensures ∙ ap slot_kinds c.as_slice-items.ensures)
    (c.new.ensures ∙ c.in_ok-terms.ensures ∙ ap (λ l. c.args.row.now.head ∷ slot_terms l c.as_slice.result.now) c.as_slice-items.ensures
    ∙ ap (λ l. c.args.row.now.head ∷ slot_terms c.args.operator.now.items l) c.as_slice.ensures)
    c.in_ok-covered.ensures
