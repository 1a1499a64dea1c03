use Rattle.std.proofs.Common.{ap, ◌∙◌}
use Rattle.std.specs.Option.{option_map}
use Rattle.psg_defcheck.specs.Scopes.{value_place}
use Rattle.psg_defcheck.specs.Tables.{operator_told}
use Rattle.psg_defcheck.specs.Sorting.{place_told}
use Rattle.psg_defcheck.proofs.LineSortLaws.{row_line, nil_line, cell_line, hole_line, case_line, declare_line}
use Rattle.psg_defcheck.proofs.sorted_lines.sorts_line.Goals as goal

pub returns-in_ok-fits-in-Row : goal.returns-in_ok-fits-in-Row
returns-in_ok-fits-in-Row c = λ above h.
    row_line c.args.scope.now above c.args.line.now c.in-Row.head c.in-Row.columns c.as_slice.result.now (option_map operator_told c.args.above.now.operator) c.args.sorts.now c.sorts_row.new.sorts c.in_ok-fits-in-Row.fits c.in-Row.is c.as_slice.ensures
    h.operator c.in_ok-fits-in-Row.ensures

pub returns-in_ok-fits-in-Nil : goal.returns-in_ok-fits-in-Nil
returns-in_ok-fits-in-Nil c = λ above h.
    nil_line c.args.scope.now above c.args.line.now c.in-Nil.list c.in-Nil.term (place_told c.value_place-own.result) c.args.sorts.now c.sorts_term.new.sorts c.in_ok-fits-in-Nil.fits c.in-Nil.is (c.value_place-own.ensures ∙ ap (value_place c.args.scope.now) c.as_str.ensures) c.in_ok-fits-in-Nil.ensures

pub returns-in_ok-fits-in-Cell : goal.returns-in_ok-fits-in-Cell
returns-in_ok-fits-in-Cell c = λ above h.
    cell_line c.args.scope.now above c.args.line.now c.in-Cell.list c.as_str-in-Cell.result.now c.in-Cell.term c.in-Cell.element c.in-Cell.rest c.args.sorts.now c.sorts_cell.new.sorts c.in_ok-fits-in-Cell.fits c.in-Cell.is c.as_str-in-Cell.ensures
    c.in_ok-fits-in-Cell.ensures

pub returns-in_ok-fits-in-Hole : goal.returns-in_ok-fits-in-Hole
returns-in_ok-fits-in-Hole c = λ above h.
    hole_line c.args.scope.now above c.args.line.now c.in-Hole.kind c.as_str-in-Hole.result.now c.in-Hole.term c.in-Hole.specimen c.args.sorts.now c.sorts_hole.new.sorts c.in_ok-fits-in-Hole.fits c.in-Hole.is c.as_str-in-Hole.ensures
    c.in_ok-fits-in-Hole.ensures

pub returns-in_ok-fits-in-Case : goal.returns-in_ok-fits-in-Case
returns-in_ok-fits-in-Case c = λ above h.
    case_line c.args.scope.now above c.args.line.now c.in-Case.term c.in-Case.specimen (place_told c.args.above.now.hole) (place_told c.values_place-values.result) (place_told c.kinds_place-kind.result) c.args.sorts.now c.sorts_by.new.sorts
    c.in_ok-fits-in-Case.fits c.in-Case.is h.hole c.values_place-values.ensures c.kinds_place-kind.ensures c.in_ok-fits-in-Case.ensures

pub returns-in_ok-fits-in-Declare : goal.returns-in_ok-fits-in-Declare
returns-in_ok-fits-in-Declare c = λ above h.
    declare_line c.args.scope.now above c.args.line.now c.in-Declare.space c.in-Declare.list c.as_str-space.result.now c.as_str-list.result.now c.in-Declare.entity c.in-Declare.value c.in-Declare.specimen c.args.sorts.now c.sorts_declare.new.sorts c.in_ok-fits-in-Declare.fits c.in-Declare.is
    c.as_str-space.ensures c.as_str-list.ensures c.in_ok-fits-in-Declare.ensures
