use Rattle.std.proofs.Common.{◌++◌, length, ap, ◌∙◌}
use Rattle.psg_class.specs.Grids.{is_set, twice}
use Rattle.psg_class.specs.Class.{SameFirst}
use Rattle.psg_class.specs.Failing.{lead_cell, cells_from, bracket_cells}
use Rattle.psg_class.proofs.TableLaws.{leads_inside, same_first_table, table_first, wide_of, bracket_number}
use Rattle.psg_class.proofs.check.same_first.Goals as goal

pub repeated-requires : goal.repeated-requires
repeated-requires c = leads_inside c.args.definition.now c.args.vocabulary.now.words.items c.args.shapes.now c.requires.read c.in_ok-width.width (wide_of c.args.vocabulary.now.base _ _ _ c.requires.vocabulary.base c.in_ok-width.ensures.sum) c.known-opening.result (bracket_number c.args.definition.now c.args.vocabulary.now.words.items c.args.vocabulary.now.base c.known-opening.result c.requires.vocabulary.base c.known-opening.ensures) c.as_slice-phyla.result.now c.as_slice-phyla.ensures c.as_slice.result.now (c.as_slice.ensures.value ∙ c.in_ok-cells.ensures)

pub returns : goal.returns
returns c =
    table_first c.args.definition.now c.args.vocabulary.now.words.items (SameFirst c.args.definition.now) (length c.args.definition.now.phyla) c.in_ok-width.width (is_set c.in_ok-twice.twice)
    (same_first_table c.args.definition.now c.args.vocabulary.now.words.items c.args.shapes.now c.requires.read c.in_ok-width.width (wide_of c.args.vocabulary.now.base _ _ _ c.requires.vocabulary.base c.in_ok-width.ensures.sum) c.known-opening.result (bracket_number c.args.definition.now c.args.vocabulary.now.words.items c.args.vocabulary.now.base c.known-opening.result c.requires.vocabulary.base c.known-opening.ensures) (is_set c.in_ok-twice.twice) (λ r k h. c.in_ok-twice.ensures.exact r k h ∙ ap (twice r k) (c.as_slice.ensures.value ∙ c.in_ok-cells.ensures ∙ ap (λ p. cells_from lead_cell c.args.shapes.now ++ bracket_cells c.known-opening.result 0 p) c.as_slice-phyla.ensures)))
    c.args.vocabulary.now.base c.in_ok-twice.twice.height c.in_ok-twice.twice.width c.requires.vocabulary.base (c.in_ok-twice.ensures.size.height_is ∙ ap length c.as_slice-phyla.ensures) c.in_ok-twice.ensures.size.width_is
    c.first_failing.result c.first_failing.ensures
