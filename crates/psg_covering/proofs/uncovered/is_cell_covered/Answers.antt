use Rattle.std.proofs.Common.{◌∷◌, ap, ◌∙◌}
use Rattle.psg_covering.proofs.RowLaws.{cell_fits, cell_test}
use Rattle.psg_covering.proofs.uncovered.is_cell_covered.Goals as goal

pub is_covered-requires-clause-fits : goal.is_covered-requires-clause-fits
is_covered-requires-clause-fits c =
    cell_fits c.args.definition.now c.args.number c.args.list.now c.args.row.now c.new.result c.requires.list c.requires.row
    (c.new.ensures ∙ c.in_ok-terms.ensures ∙ ap (λ l. c.args.row.now.head ∷ l) c.as_slice.ensures)

pub returns : goal.returns
returns c =
    cell_test c.args.definition.now c.args.number c.args.list.now c.args.row.now c.new.result c.in_ok-covered.covered
    (c.new.ensures ∙ c.in_ok-terms.ensures ∙ ap (λ l. c.args.row.now.head ∷ l) c.as_slice.ensures) c.in_ok-covered.ensures
