use Rattle.std.proofs.Common.{map, ap, ◌++◌, ◌∙◌}
use Rattle.std.specs.List.{flat_map}
use Rattle.psg_defread.specs.WrittenLines.{sort_lines, space_line, phylum_line, list_line, operator_lines, nil_lines, cell_lines, hole_lines, declare_line}
use Rattle.psg_defread.proofs.WriteLaws.{nine}
use Rattle.psg_defread.proofs.lines.definition_lines.Goals as goal

pub returns : goal.returns
returns c =
    nine c.new-out.result.items
    c.push_sorts.new.out.items
    c.push_spaces.new.out.items
    c.push_phyla.new.out.items
    c.push_lists.new.out.items
    c.push_operators.new.out.items
    c.push_nils.new.out.items
    c.push_cells.new.out.items
    c.push_holes.new.out.items
    c.push_declares.new.out.items
    (sort_lines c.args.definition.now 0 c.args.definition.now.signature.sorts)
    (map (space_line c.args.definition.now) c.args.definition.now.spaces)
    (map (phylum_line c.args.definition.now) c.args.definition.now.phyla)
    (map (list_line c.args.definition.now) c.args.definition.now.lists)
    (flat_map (operator_lines c.args.definition.now) c.args.definition.now.operators)
    (flat_map (nil_lines c.args.definition.now) c.args.definition.now.lists)
    (flat_map (cell_lines c.args.definition.now) c.args.definition.now.lists)
    (flat_map (hole_lines c.args.definition.now) c.args.definition.now.hole_rows)
    (map (declare_line c.args.definition.now) c.args.definition.now.declare_rows)
    c.new-out.ensures.items
    c.in_ok-push_sorts.ensures
    (c.in_ok-push_spaces.ensures ∙ ap
    (λ xs. c.push_sorts.new.out.items ++ map (space_line c.args.definition.now) xs) c.as_slice.ensures)
    (c.in_ok-push_phyla.ensures ∙ ap
    (λ xs. c.push_spaces.new.out.items ++ map (phylum_line c.args.definition.now) xs) c.as_slice-2.ensures)
    (c.in_ok-push_lists.ensures ∙ ap (λ xs. c.push_phyla.new.out.items ++ map (list_line c.args.definition.now) xs)
    c.as_slice-3.ensures)
    (c.in_ok-push_operators.ensures
    ∙ ap (λ xs. c.push_lists.new.out.items ++ flat_map (operator_lines c.args.definition.now) xs)
    c.as_slice-4.ensures)
    (c.in_ok-push_nils.ensures ∙ ap
    (λ xs. c.push_operators.new.out.items ++ flat_map (nil_lines c.args.definition.now) xs) c.as_slice-5.ensures)
    (c.in_ok-push_cells.ensures ∙ ap
    (λ xs. c.push_nils.new.out.items ++ flat_map (cell_lines c.args.definition.now) xs) c.as_slice-6.ensures)
    (c.in_ok-push_holes.ensures ∙ ap
    (λ xs. c.push_cells.new.out.items ++ flat_map (hole_lines c.args.definition.now) xs) c.as_slice-7.ensures)
    (c.in_ok-push_declares.ensures
    ∙ ap (λ xs. c.push_holes.new.out.items ++ map (declare_line c.args.definition.now) xs) c.as_slice-8.ensures)
