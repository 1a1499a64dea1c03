use Rattle.std.proofs.Common.{ap, ◌∙◌, length}
use Rattle.std.specs.Option.{option_map}
use Rattle.psg_defcheck.specs.Tables.{operator_told}
use Rattle.psg_defcheck.specs.Sorting.{place_told, places_told}
use Rattle.psg_defcheck.proofs.LineSortLaws.{columns_count, row_standing}
use Rattle.psg_defcheck.proofs.sorted_lines.sorts_row.Goals as goal

pub sorts_terms-requires-clause-count : goal.sorts_terms-requires-clause-count
sorts_terms-requires-clause-count c =
    columns_count c.args.scope.now (option_map operator_told c.args.above.now.operator) (operator_told c.in-Some.operator) (length c.args.columns.now) c.as_slice.result.now (ap (option_map operator_told) c.in-Some.is) c.requires.count
    (ap places_told c.as_slice.ensures.value ∙ c.in_ok-places.ensures)

pub returns : goal.returns
returns c =
    row_standing c.args.scope.now (option_map operator_told c.args.above.now.operator) (operator_told c.in-Some.operator) c.args.head.now c.args.columns.now (place_told c.value_place-values.result) c.as_slice.result.now c.args.sorts.now c.sorts_term.new.sorts
    c.sorts_terms.new.sorts c.in_ok-head_fits.head_fits c.in_ok-fits.fits (ap (option_map operator_told) c.in-Some.is) c.value_place-values.ensures (ap places_told c.as_slice.ensures.value ∙ c.in_ok-places.ensures)
    c.if-not-head_fits.false c.in_ok-head_fits.ensures c.in_ok-fits.ensures
