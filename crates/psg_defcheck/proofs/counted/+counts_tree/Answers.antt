use Rattle.std.proofs.Common.{ap, ap₂, arith, sym, ◌∙◌}
use Rattle.psg_deflines.specs.WrittenTrees.{operator}
use Rattle.psg_deflines.specs.TreeShapes.{with_parts, ending, list_of, tree_of}
use Rattle.psg_defcheck.proofs.TreeLaws.{operator-parts, list-elements, part_below, element_below}
use Rattle.psg_defcheck.proofs.CountedLaws.{operator_counted, operator_miscounted, list_counted, list_miscounted}
use Rattle.psg_defcheck.proofs.counted.+counts_tree.Goals as goal

pub counts_parts-counts_part-requires : goal.counts_parts-counts_part-requires
counts_parts-counts_part-requires t c =
    let lt = part_below c.args.parts.now c.loop-part.part-index c.part-item.result c.loop-part-test.true c.part-item.is in (omega arith, tt)

pub counts_trees-counts_tree-requires : goal.counts_trees-counts_tree-requires
counts_trees-counts_tree-requires t c =
    let lt = element_below c.args.trees.now c.loop-tree.tree-index c.tree-item.result c.loop-tree-test.true c.tree-item.is in (omega arith, tt)

pub counts_tree-counts_parts-requires : goal.counts_tree-counts_parts-requires
counts_tree-counts_parts-requires t c =
    let lt = operator-parts c.args.tree.now c.in-Operator.name c.in-Operator.parts c.as_slice-parts.result.now (sym (ap tree_of c.in-Operator.is) ∙ c.tree.view_is) c.as_slice-parts.ensures in (omega arith, tt)

pub counts_tree-counts_trees-requires : goal.counts_tree-counts_trees-requires
counts_tree-counts_trees-requires t c =
    let lt = list-elements c.args.tree.now c.in-List.rest c.in-List.elements c.as_slice.result.now (sym (ap tree_of c.in-List.is) ∙ c.tree.view_is) c.as_slice.ensures in (omega arith, tt)

pub counts_tree-returns-then-has_part_count : goal.counts_tree-returns-then-has_part_count
counts_tree-returns-then-has_part_count t c =
    operator_counted c.args.scope.now c.args.tree.now c.as_str.result.now c.as_slice-parts.result.now c.counts_parts.result
    (ap₂ (λ n ps. with_parts (operator n) ps) c.as_str.ensures c.as_slice-parts.ensures ∙ sym (ap tree_of c.in-Operator.is) ∙ c.tree.view_is)
    (c.has_part_count.ensures.0 c.if-has_part_count.true) c.counts_parts.ensures

pub counts_tree-returns-else-has_part_count : goal.counts_tree-returns-else-has_part_count
counts_tree-returns-else-has_part_count t c =
    operator_miscounted c.args.scope.now c.args.tree.now c.as_str.result.now c.as_slice-parts.result.now c.has_part_count.result
    (ap₂ (λ n ps. with_parts (operator n) ps) c.as_str.ensures c.as_slice-parts.ensures ∙ sym (ap tree_of c.in-Operator.is) ∙ c.tree.view_is)
    c.if-has_part_count.false c.has_part_count.ensures

pub counts_tree-returns-then-counts_end : goal.counts_tree-returns-then-counts_end
counts_tree-returns-then-counts_end t c =
    list_counted c.args.scope.now c.args.tree.now c.in-List.rest c.as_slice.result.now c.counts_trees.result
    (ap (list_of (ending c.in-List.rest)) c.as_slice.ensures ∙ sym (ap tree_of c.in-List.is) ∙ c.tree.view_is)
    (c.counts_end.ensures.0 c.if-counts_end.true) c.counts_trees.ensures

pub counts_tree-returns-else-counts_end : goal.counts_tree-returns-else-counts_end
counts_tree-returns-else-counts_end t c =
    list_miscounted c.args.scope.now c.args.tree.now c.in-List.rest c.in-List.elements c.counts_end.result
    (sym (ap tree_of c.in-List.is) ∙ c.tree.view_is) c.if-counts_end.false c.counts_end.ensures
