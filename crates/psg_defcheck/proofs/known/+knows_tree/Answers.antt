use Rattle.std.proofs.Common.{ap, ap₂, arith, sym, ◌∙◌}
use Rattle.psg_deflines.specs.WrittenTrees.{operator}
use Rattle.psg_deflines.specs.TreeShapes.{with_parts, ending, list_of, tree_of}
use Rattle.psg_defcheck.proofs.TreeLaws.{operator-parts, list-elements, part_below, element_below}
use Rattle.psg_defcheck.proofs.KnownLaws.{operator_known, operator_unknown, list_known, list_unknown}
use Rattle.psg_defcheck.proofs.known.+knows_tree.Goals as goal

pub knows_parts-knows_part-requires : goal.knows_parts-knows_part-requires
knows_parts-knows_part-requires t c =
    let lt = part_below c.args.parts.now c.loop-part.part-index c.part-item.result c.loop-part-test.true c.part-item.is in (omega arith, tt)

pub knows_trees-knows_tree-requires : goal.knows_trees-knows_tree-requires
knows_trees-knows_tree-requires t c =
    let lt = element_below c.args.trees.now c.loop-tree.tree-index c.tree-item.result c.loop-tree-test.true c.tree-item.is in (omega arith, tt)

pub knows_tree-knows_parts-requires : goal.knows_tree-knows_parts-requires
knows_tree-knows_parts-requires t c =
    let lt = operator-parts c.args.tree.now c.in-Operator.name c.in-Operator.parts c.as_slice.result.now (sym (ap tree_of c.in-Operator.is) ∙ c.tree.view_is) c.as_slice.ensures in (omega arith, tt)

pub knows_tree-knows_trees-requires : goal.knows_tree-knows_trees-requires
knows_tree-knows_trees-requires t c =
    let lt = list-elements c.args.tree.now c.in-List.rest c.in-List.elements c.as_slice-then-knows_end.result.now (sym (ap tree_of c.in-List.is) ∙ c.tree.view_is) c.as_slice-then-knows_end.ensures in (omega arith, tt)

pub knows_tree-returns-then-is_operator : goal.knows_tree-returns-then-is_operator
knows_tree-returns-then-is_operator t c =
    operator_known c.args.scope.now c.args.tree.now c.as_str.result.now c.as_slice.result.now c.knows_parts.result
    (ap₂ (λ n ps. with_parts (operator n) ps) c.as_str.ensures c.as_slice.ensures ∙ sym (ap tree_of c.in-Operator.is) ∙ c.tree.view_is)
    (sym c.is_operator.ensures ∙ c.if-is_operator.true) c.knows_parts.ensures

pub knows_tree-returns-else-is_operator : goal.knows_tree-returns-else-is_operator
knows_tree-returns-else-is_operator t c =
    operator_unknown c.args.scope.now c.args.tree.now c.as_str.result.now c.in-Operator.parts c.is_operator.result
    (ap (λ n. with_parts (operator n) c.in-Operator.parts) c.as_str.ensures ∙ sym (ap tree_of c.in-Operator.is) ∙ c.tree.view_is)
    c.if-is_operator.false c.is_operator.ensures

pub knows_tree-returns-then-knows_end : goal.knows_tree-returns-then-knows_end
knows_tree-returns-then-knows_end t c =
    list_known c.args.scope.now c.args.tree.now c.in-List.rest c.as_slice-then-knows_end.result.now c.knows_trees.result
    (ap (list_of (ending c.in-List.rest)) c.as_slice-then-knows_end.ensures ∙ sym (ap tree_of c.in-List.is) ∙ c.tree.view_is)
    (c.knows_end.ensures.0 c.if-knows_end.true) c.knows_trees.ensures

pub knows_tree-returns-else-knows_end : goal.knows_tree-returns-else-knows_end
knows_tree-returns-else-knows_end t c =
    list_unknown c.args.scope.now c.args.tree.now c.in-List.rest c.in-List.elements c.knows_end.result
    (sym (ap tree_of c.in-List.is) ∙ c.tree.view_is) c.if-knows_end.false c.knows_end.ensures
