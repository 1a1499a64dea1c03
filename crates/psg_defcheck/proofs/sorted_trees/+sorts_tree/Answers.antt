use Rattle.std.proofs.Common.{None, [], ap, ap₂, arith, refl, subst, sym, true, ◌∙◌}
use Rattle.psg_deflines.specs.WrittenTrees.{operator}
use Rattle.psg_deflines.specs.TreeShapes.{with_parts, ending, list_of, tree_of}
use Rattle.psg_defcheck.specs.Meanings as meanings
use Rattle.psg_defcheck.specs.Tables.{operator_told}
use Rattle.psg_defcheck.specs.Sorting.{Narrows, part_places_told, place_told}
use Rattle.psg_defcheck.specs.declared.places.PartPlace.TheVariants as places
use Rattle.psg_defcheck.proofs.TreeLaws.{operator-parts, list-elements, part_below, element_below}
use Rattle.psg_defcheck.proofs.SortLaws.{all-at}
use Rattle.psg_defcheck.proofs.TreeSortLaws.{known_operator, known_parts, counted_parts, parts_count, known_end, counted_end, known_elements, counted_elements, operator_not_standing, operator_standing, list_not_standing, end_not_standing, list_standing, tree_part, walk_more, walk_stops, walk_ends, each_more, each_stops, each_ends}
use Rattle.psg_defcheck.proofs.sorted_trees.+sorts_tree.Goals as goal

pub sorts_part-returns-in_ok-fits-in-Tree-place : goal.sorts_part-returns-in_ok-fits-in-Tree-place
sorts_part-returns-in_ok-fits-in-Tree-place t c =
    tree_part c.args.scope.now c.args.place c.in-Tree-place.kind c.args.part.now c.in-Tree.tree c.args.sorts.now c.sorts_tree.new.sorts c.in_ok-fits-in-Tree-place.fits c.in-Tree-place.is c.in-Tree.is c.in_ok-fits-in-Tree-place.ensures

pub sorts_parts-sorts_part-requires : goal.sorts_parts-sorts_part-requires
sorts_parts-sorts_part-requires t c =
    let lt = part_below c.args.parts.now c.loop-i.i c.index-parts-i.result c.loop-i-test.true c.index-parts-i.is in (
      omega arith,
      (
        all-at _ c.args.parts.now c.loop-i.i c.index-parts-i.result c.requires.known c.loop-i-test.true c.index-parts-i.is,
        all-at _ c.args.parts.now c.loop-i.i c.index-parts-i.result c.requires.counted c.loop-i-test.true c.index-parts-i.is,
      ),
    )

pub sorts_parts-returns-then-not-fits : goal.sorts_parts-returns-then-not-fits
sorts_parts-returns-then-not-fits t c =
    walk_stops c.args.scope.now c.args.places.now c.args.parts.now c.loop-i.i _ c.index-parts-i.result c.args.sorts.now c.loop-i.sorts c.sorts_part.new.sorts c.in_ok-fits.fits c.requires.count c.loop-i-test.true c.index-parts-i.is
    c.if-not-fits.true c.loop-i.invariant c.in_ok-fits.ensures

pub sorts_parts-loop-i-preserved : goal.sorts_parts-loop-i-preserved
sorts_parts-loop-i-preserved t c =
    let k = subst (Narrows _ c.loop-i.sorts c.sorts_part.new.sorts) c.if-not-fits.false c.in_ok-fits.ensures in
    walk_more c.args.scope.now c.args.places.now c.args.parts.now c.loop-i.i (places.Tree None) c.index-parts-i.result c.args.sorts.now c.loop-i.sorts c.sorts_part.new.sorts true c.requires.count c.loop-i-test.true c.index-parts-i.is c.loop-i.invariant k

pub sorts_parts-returns : goal.sorts_parts-returns
sorts_parts-returns t c = walk_ends c.args.scope.now c.args.places.now c.args.parts.now c.loop-i.i c.args.sorts.now c.loop-i.sorts c.requires.count (omega arith) c.loop-i.invariant

pub sorts_trees-sorts_tree-requires : goal.sorts_trees-sorts_tree-requires
sorts_trees-sorts_tree-requires t c =
    let lt = element_below c.args.trees.now c.loop-tree.tree-index c.tree-item.result c.loop-tree-test.true c.tree-item.is in (
      omega arith,
      (
        all-at _ c.args.trees.now c.loop-tree.tree-index c.tree-item.result c.requires.known c.loop-tree-test.true c.tree-item.is,
        all-at _ c.args.trees.now c.loop-tree.tree-index c.tree-item.result c.requires.counted c.loop-tree-test.true c.tree-item.is,
      ),
    )

pub sorts_trees-returns-then-not-fits : goal.sorts_trees-returns-then-not-fits
sorts_trees-returns-then-not-fits t c =
    each_stops (λ of. meanings.SortsTree c.args.scope.now of [] (place_told c.args.place)) c.args.trees.now c.loop-tree.tree-index c.tree-item.result c.args.sorts.now c.loop-tree.sorts c.sorts_tree.new.sorts c.in_ok-fits.fits c.loop-tree-test.true c.tree-item.is
    c.if-not-fits.true c.loop-tree.invariant c.in_ok-fits.ensures

pub sorts_trees-loop-tree-preserved : goal.sorts_trees-loop-tree-preserved
sorts_trees-loop-tree-preserved t c =
    let k = subst (Narrows _ c.loop-tree.sorts c.sorts_tree.new.sorts) c.if-not-fits.false c.in_ok-fits.ensures in
    each_more (λ of. meanings.SortsTree c.args.scope.now of [] (place_told c.args.place)) c.args.trees.now c.loop-tree.tree-index c.tree-item.result c.args.sorts.now c.loop-tree.sorts c.sorts_tree.new.sorts true c.loop-tree-test.true c.tree-item.is
    c.loop-tree.invariant k

pub sorts_trees-returns : goal.sorts_trees-returns
sorts_trees-returns t c =
    each_ends (λ of. meanings.SortsTree c.args.scope.now of [] (place_told c.args.place)) c.args.trees.now c.loop-tree.tree-index c.args.sorts.now c.loop-tree.sorts (omega arith) c.loop-tree.invariant

pub sorts_tree-unreachable-requires : goal.sorts_tree-unreachable-requires
sorts_tree-unreachable-requires t c =
    known_operator c.args.scope.now c.args.tree.now c.as_str.result.now c.in-Operator.parts
    (ap (λ n. with_parts (operator n) c.in-Operator.parts) c.as_str.ensures ∙ sym (ap tree_of c.in-Operator.is) ∙ c.tree.view_is) c.requires.known c.in_default.ensures

pub sorts_tree-returns-then-not-may_stand : goal.sorts_tree-returns-then-not-may_stand
sorts_tree-returns-then-not-may_stand t c = λ s agrees.
    operator_not_standing c.args.scope.now s _ c.args.tree.now c.as_str.result.now c.in-Operator.parts (operator_told c.in-Some.operator) c.may_stand.result
    (ap (λ n. with_parts (operator n) c.in-Operator.parts) c.as_str.ensures ∙ sym (ap tree_of c.in-Operator.is) ∙ c.tree.view_is) c.in-Some.ensures c.if-not-may_stand.true c.may_stand.ensures

pub sorts_tree-sorts_parts-requires : goal.sorts_tree-sorts_parts-requires
sorts_tree-sorts_parts-requires t c =
    let n = c.as_str.result.now in
    let ps = c.as_slice-in-Operator.result.now in
    let e = ap₂ (λ n ps. with_parts (operator n) ps) c.as_str.ensures c.as_slice-in-Operator.ensures ∙ sym (ap tree_of c.in-Operator.is) ∙ c.tree.view_is in
    let lt = operator-parts c.args.tree.now n ps ps e refl in (
      omega arith,
      (
        known_parts c.args.scope.now c.args.tree.now n ps e c.requires.known,
        (
          counted_parts c.args.scope.now c.args.tree.now n ps e c.requires.counted,
          parts_count c.args.scope.now c.args.tree.now n ps (operator_told c.in-Some.operator) c.as_slice.result.now e c.requires.counted c.in-Some.ensures
              (ap part_places_told c.as_slice.ensures.value ∙ c.in_ok-places-in-Operator.ensures),
        ),
      ),
    )

pub sorts_tree-returns-in_ok-fits-in-Operator : goal.sorts_tree-returns-in_ok-fits-in-Operator
sorts_tree-returns-in_ok-fits-in-Operator t c =
    operator_standing c.args.scope.now _ c.args.tree.now c.as_str.result.now c.as_slice-in-Operator.result.now (operator_told c.in-Some.operator) c.as_slice.result.now c.args.sorts.now c.sorts_parts.new.sorts c.in_ok-fits-in-Operator.fits
    (ap₂ (λ n ps. with_parts (operator n) ps) c.as_str.ensures c.as_slice-in-Operator.ensures ∙ sym (ap tree_of c.in-Operator.is) ∙ c.tree.view_is) c.in-Some.ensures (c.may_stand.ensures.0 c.if-not-may_stand.false)
    (ap part_places_told c.as_slice.ensures.value ∙ c.in_ok-places-in-Operator.ensures) c.in_ok-fits-in-Operator.ensures

pub sorts_tree-returns-then-not-list_may_stand : goal.sorts_tree-returns-then-not-list_may_stand
sorts_tree-returns-then-not-list_may_stand t c = λ s agrees.
    list_not_standing c.args.scope.now s _ c.args.tree.now c.in-List.rest c.in-List.elements c.list_may_stand.result (sym (ap tree_of c.in-List.is) ∙ c.tree.view_is) c.requires.known c.if-not-list_may_stand.true c.list_may_stand.ensures

pub sorts_tree-sorts_end-requires-clause-known : goal.sorts_tree-sorts_end-requires-clause-known
sorts_tree-sorts_end-requires-clause-known t c = known_end c.args.scope.now c.args.tree.now c.in-List.rest c.in-List.elements (sym (ap tree_of c.in-List.is) ∙ c.tree.view_is) c.requires.known

pub sorts_tree-sorts_end-requires-clause-counted : goal.sorts_tree-sorts_end-requires-clause-counted
sorts_tree-sorts_end-requires-clause-counted t c = counted_end c.args.scope.now c.args.tree.now c.in-List.rest c.in-List.elements (sym (ap tree_of c.in-List.is) ∙ c.tree.view_is) c.requires.counted

pub sorts_tree-returns-then-not-end_fits : goal.sorts_tree-returns-then-not-end_fits
sorts_tree-returns-then-not-end_fits t c =
    end_not_standing c.args.scope.now _ c.args.tree.now c.in-List.rest c.in-List.elements c.args.sorts.now c.sorts_end.new.sorts c.in_ok-end_fits-in-List.end_fits (sym (ap tree_of c.in-List.is) ∙ c.tree.view_is) c.requires.known
    c.if-not-end_fits.true c.in_ok-end_fits-in-List.ensures

pub sorts_tree-sorts_trees-requires : goal.sorts_tree-sorts_trees-requires
sorts_tree-sorts_trees-requires t c =
    let es = c.as_slice-in-List.result.now in
    let e = ap (list_of (ending c.in-List.rest)) c.as_slice-in-List.ensures ∙ sym (ap tree_of c.in-List.is) ∙ c.tree.view_is in
    let lt = list-elements c.args.tree.now c.in-List.rest es es e refl in
    (omega arith, (known_elements c.args.scope.now c.args.tree.now c.in-List.rest es e c.requires.known, counted_elements c.args.scope.now c.args.tree.now c.in-List.rest es e c.requires.counted))

pub sorts_tree-returns-in_ok-fits-in-List : goal.sorts_tree-returns-in_ok-fits-in-List
sorts_tree-returns-in_ok-fits-in-List t c =
    list_standing c.args.scope.now _ (place_told c.elements_place-phylum.result) c.args.tree.now c.in-List.rest c.as_slice-in-List.result.now c.args.sorts.now c.sorts_end.new.sorts c.sorts_trees.new.sorts c.in_ok-end_fits-in-List.end_fits c.in_ok-fits-in-List.fits
    (ap (list_of (ending c.in-List.rest)) c.as_slice-in-List.ensures ∙ sym (ap tree_of c.in-List.is) ∙ c.tree.view_is) c.requires.known (c.list_may_stand.ensures.0 c.if-not-list_may_stand.false) c.elements_place-phylum.ensures
    c.if-not-end_fits.false c.in_ok-end_fits-in-List.ensures c.in_ok-fits-in-List.ensures

pub sorts_tree-returns-in_ok-fits-in-Place : goal.sorts_tree-returns-in_ok-fits-in-Place
sorts_tree-returns-in_ok-fits-in-Place t c =
    subst (λ z. Narrows (λ of. meanings.SortsTree c.args.scope.now of [] (place_told c.args.place) z) c.args.sorts.now c.sorts_place.new.sorts c.in_ok-fits-in-Place.fits) (sym (ap tree_of c.in-Place.is) ∙ c.tree.view_is) c.in_ok-fits-in-Place.ensures
