use Rattle.std.proofs.Common.{◌∷◌, [], ◌++◌, false, refl, sym, ap, ap₂, subst, ◌∙◌, arith}
use Rattle.std.specs.List.{AllByRecursion}
use Rattle.psg_terms.proofs.Lists.{each_at, slice_get_item}
use Rattle.psg_grammar.specs.Fragments.{operator}
use Rattle.psg_scope.specs.Headers.{keys}
use Rattle.psg_tree.specs.Shapes.{height, list_of, subtrees, with_part, with_parts}
use Rattle.psg_tree.proofs.Heights.{element_in, op_height, part_in}
use Rattle.psg_cache.specs.Notes.{IsFormed}
use Rattle.psg_eval.specs.OwnRows.{positions}
use Rattle.psg_explain.specs.Splits.{names_among}
use Rattle.psg_explain.specs.DeclaredParts.{element_keys, parts_keys}
use Rattle.psg_explain.proofs.DeclaredLaws.{child_open, child_scope, element_more, elements_over, hole_declares, list_node_declares, name_found, node_declares, number_found, part_formed, part_more, part_count, parts_over, sub_found, text_found}
use Rattle.psg_explain.proofs.StagingLaws.{elements_formed, parts_formed, shape_hole, shape_list, shape_op}
use Rattle.psg_explain.proofs.regions.+declared.Goals as goal

pub add_child-add_declared-requires : goal.add_child-add_declared-requires
add_child-add_declared-requires t c = (omega arith, c.requires)

pub add_child-returns-then-is_scope : goal.add_child-returns-then-is_scope
add_child-returns-then-is_scope t c = child_scope c.args.definition.now c.args.tree.now (keys c.args.found.now.items) (sym c.is_scope.ensures ∙ c.if-is_scope.true)

pub add_child-returns : goal.add_child-returns
add_child-returns t c = child_open c.args.definition.now c.args.tree.now (keys c.args.found.now.items) (keys c.add_declared.new.found.items) (sym c.is_scope.ensures ∙ c.if-is_scope.false) c.in_ok-add_declared.ensures

pub add_part-add_child-requires : goal.add_part-add_child-requires
add_part-add_child-requires t c =
    let h = ap (λ p. height (with_part (operator 0) p)) c.in-Sub.is in
    (omega (arith, h), (subst (λ p. AllByRecursion (IsFormed c.args.definition.now) (subtrees (p ∷ []))) c.in-Sub.is c.requires.formed).0)

pub add_part-returns-in_ok-add_child-in-Sub : goal.add_part-returns-in_ok-add_child-in-Sub
add_part-returns-in_ok-add_child-in-Sub t c =
    let made =
    sub_found c.args.definition.now c.args.positions.now c.args.next c.args.part.now (keys c.args.found.now.items) (keys c.add_child.new.found.items) c.in-Sub.child c.in-Sub.is c.in_ok-add_child-in-Sub.ensures in
    record { found = made.0; next = made.1 }

pub add_part-returns-in_ok-add_position-in-Name : goal.add_part-returns-in_ok-add_position-in-Name
add_part-returns-in_ok-add_position-in-Name t c =
    let made =
    name_found c.args.definition.now c.args.positions.now c.args.next c.args.part.now (keys c.args.found.now.items) (keys c.add_position.new.found.items) c.in-Name.field-0 c.in-Name.is c.in_ok-add_position-in-Name.ensures in
    record { found = made.0; next = made.1 }

pub add_part-returns-in-Number : goal.add_part-returns-in-Number
add_part-returns-in-Number t c =
    let made = number_found c.args.definition.now c.args.positions.now c.args.next c.args.part.now (keys c.args.found.now.items) (keys c.args.found.now.items) c.in-Number.field-0 c.in-Number.is refl in
    record { found = made.0; next = made.1 }

pub add_part-returns-in-Text : goal.add_part-returns-in-Text
add_part-returns-in-Text t c =
    let made = text_found c.args.definition.now c.args.positions.now c.args.next c.args.part.now (keys c.args.found.now.items) (keys c.args.found.now.items) c.in-Text.field-0 c.in-Text.is refl in
    record { found = made.0; next = made.1 }

pub add_parts-add_part-requires : goal.add_parts-add_part-requires
add_parts-add_part-requires t c =
    let ps = c.args.parts.now in
    let i = c.loop-i.i in
    let p = c.index-parts-i.result in
    let lt = c.loop-i-test.true in
    let e = part_in (operator 0) ps i p lt c.index-parts-i.is in
    let few = c.loop-i.invariant.0 in
    (omega arith, (part_formed (IsFormed c.args.definition.now) ps i p lt c.index-parts-i.is c.requires, omega (arith, few, lt)))

pub add_parts-loop-i-preserved : goal.add_parts-loop-i-preserved
add_parts-loop-i-preserved t c =
    let def = c.args.definition.now in
    let own = c.args.positions.now in
    let ps = c.args.parts.now in
    let i = c.loop-i.i in
    let p = c.index-parts-i.result in
    let old = c.args.found.now.items in
    let few = c.loop-i.invariant.0 in
    let one = part_count p in
    let next = c.in_ok-after.ensures.next in (
      omega (arith, few, one, next),
      part_more def own ps i c.loop-i.next c.in_ok-after.after p c.loop-i.found.items c.add_part.new.found.items (keys old ++ parts_keys def own 0 ps) c.loop-i-test.true c.index-parts-i.is next c.in_ok-after.ensures.found c.loop-i.invariant.1,
    )

pub add_parts-returns : goal.add_parts-returns
add_parts-returns t c =
    parts_over c.args.definition.now c.args.positions.now c.args.parts.now c.loop-i.i c.loop-i.next c.loop-i.found.items _ (omega arith) c.loop-i.invariant.1

pub add_elements-add_child-requires : goal.add_elements-add_child-requires
add_elements-add_child-requires t c =
    let es = c.args.elements.now in
    let i = c.loop-i.i in
    let x = c.index-elements-i.result in
    let lt = c.loop-i-test.true in
    let e = element_in 0 es false i x lt c.index-elements-i.is in
    (omega arith, each_at (IsFormed c.args.definition.now) es c.requires i x (slice_get_item es i x lt c.index-elements-i.is))

pub add_elements-loop-i-preserved : goal.add_elements-loop-i-preserved
add_elements-loop-i-preserved t c =
    element_more c.args.definition.now c.args.elements.now c.loop-i.i c.index-elements-i.result c.loop-i.found.items c.add_child.new.found.items (keys c.args.found.now.items ++ element_keys c.args.definition.now c.args.elements.now)
    c.loop-i-test.true c.index-elements-i.is c.in_ok-add_child.ensures c.loop-i.invariant

pub add_elements-returns : goal.add_elements-returns
add_elements-returns t c = elements_over c.args.definition.now c.args.elements.now c.loop-i.i c.loop-i.found.items _ (omega arith) c.loop-i.invariant

pub add_declared-returns-in-Hole : goal.add_declared-returns-in-Hole
add_declared-returns-in-Hole t c =
    hole_declares c.args.definition.now c.in-Hole.phylum c.args.tree.now (keys c.args.found.now.items) (shape_hole c.shape.result.now c.in-Hole.phylum c.args.tree.now c.in-Hole.is c.shape.ensures)

pub add_declared-add_elements-requires : goal.add_declared-add_elements-requires
add_declared-add_elements-requires t c =
    let f = c.args.tree.now in
    let here = shape_list c.shape.result.now c.in-List.list c.in-List.elements c.in-List.unfinished f c.in-List.is c.shape.ensures in
    let (all, low) = elements_formed c.args.definition.now c.in-List.list c.in-List.elements c.in-List.unfinished f here c.requires in
    let same = ap (λ es. height (list_of 0 es false)) c.as_slice.ensures in
    (omega (arith, low, same), subst (AllByRecursion (IsFormed c.args.definition.now)) (sym c.as_slice.ensures) all)

pub add_declared-returns-in_ok-add_elements-in-List : goal.add_declared-returns-in_ok-add_elements-in-List
add_declared-returns-in_ok-add_elements-in-List t c =
    let f = c.args.tree.now in
    let here = shape_list c.shape.result.now c.in-List.list c.in-List.elements c.in-List.unfinished f c.in-List.is c.shape.ensures in
    list_node_declares c.args.definition.now c.in-List.list c.in-List.elements c.in-List.unfinished f (keys c.args.found.now.items) (keys c.add_elements.new.found.items) here
    (c.in_ok-add_elements-in-List.ensures ∙ ap (λ es. keys c.args.found.now.items ++ element_keys c.args.definition.now es) c.as_slice.ensures)

pub add_declared-add_parts-requires : goal.add_declared-add_parts-requires
add_declared-add_parts-requires t c =
    let f = c.args.tree.now in
    let here = shape_op c.shape.result.now c.in-Op.op c.in-Op.parts f c.in-Op.is c.shape.ensures in
    let (all, low) = parts_formed c.args.definition.now c.in-Op.op c.in-Op.parts f (subtrees c.in-Op.parts) here refl c.requires in
    let h = op_height _ _ _ _ c.in-Op.is c.shape.ensures in
    let same = ap (λ ps. height (with_parts (operator 0) ps)) c.as_slice-inner.ensures in
    (omega (arith, h, same), subst (λ ps. AllByRecursion (IsFormed c.args.definition.now) (subtrees ps)) (sym c.as_slice-inner.ensures) all)

pub add_declared-returns-in_ok-add_parts-in-Op : goal.add_declared-returns-in_ok-add_parts-in-Op
add_declared-returns-in_ok-add_parts-in-Op t c =
    let def = c.args.definition.now in
    let f = c.args.tree.now in
    let here = shape_op c.shape.result.now c.in-Op.op c.in-Op.parts f c.in-Op.is c.shape.ensures in
    let ks = keys c.args.found.now.items in
    node_declares def c.in-Op.op c.in-Op.parts f c.in_ok-own-in-Op.own.items ks (keys c.add_parts.new.found.items) here c.requires
    (λ op at. c.in_ok-own-in-Op.ensures op at ∙ ap (λ ps. positions op.items (names_among ps)) c.as_slice-in-Op.ensures)
    (c.in_ok-add_parts-in-Op.ensures ∙ ap₂ (λ own ps. ks ++ parts_keys def own 0 ps) c.as_slice-in-Op-2.ensures.value c.as_slice-inner.ensures)
