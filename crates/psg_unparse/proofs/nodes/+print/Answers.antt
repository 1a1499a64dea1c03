use Rattle.std.proofs.Common.{◌++◌, ◌∷◌, [], false, take, length, refl, ap, sym, subst, ◌∙◌, arith, length-append}
use Rattle.std.proofs.lemmas.List.{take_more}
use Rattle.psg_grammar.specs.Fragments.{operator}
use Rattle.psg_tree.specs.Shapes.{height, with_parts, list_of}
use Rattle.psg_tree.proofs.Heights.{part_in, op_height, list_height, height-list_of}
use Rattle.psg_unparse.specs.Rows.{words, from_part}
use Rattle.psg_unparse.specs.Writing.{Adds}
use Rattle.psg_unparse.proofs.Printing.{AreParts, parts-init, parts-next, elements-init, elements-next, elements-end, node_printed}
use Rattle.psg_unparse.proofs.nodes.+print.Goals as goal

pub write_operator-loop-part-init : goal.write_operator-loop-part-init
write_operator-loop-part-init t c =
    parts-init c.args.definition.now c.args.op c.items_of-items.result.now c.in_ok-rest.rest.now c.args.printer.now _
    c.items_of-items.ensures c.in_ok-rest.ensures.rest c.in_ok-rest.ensures.adds refl refl

pub write_operator-write_part-requires : goal.write_operator-write_part-requires
write_operator-write_part-requires t c =
    let e = part_in (operator 0) c.args.parts.now c.loop-part.part-index c.part-item.result c.loop-part-test.true c.part-item.is in
    (omega arith, c.requires)

pub write_operator-loop-part-preserved : goal.write_operator-loop-part-preserved
write_operator-loop-part-preserved t c =
    subst (λ ps. AreParts c.args.definition.now c.args.op ps c.items_of-items.result.now c.in_ok-rest-2.rest.now c.in_ok-number.number c.args.printer.now
    (record { writer = c.write_words-in-loop-part.new.writer; path = c.write_part.new.printer.path; spans = c.write_part.new.printer.spans }))
    (sym (take_more c.args.parts.now c.loop-part.part-index c.part-item.result c.loop-part-test.true ∙ ap (λ x. take c.loop-part.part-index c.args.parts.now ++ x ∷ []) (sym c.part-item.is)))
    (parts-next c.args.definition.now c.args.op (take c.loop-part.part-index c.args.parts.now) c.items_of-items.result.now c.loop-part.rest.now c.in_ok-rest-2.rest.now
    c.loop-part.number c.level_wanted-wanted.result c.in_ok-number.number c.part-item.result c.args.printer.now c.loop-part.printer c.write_part.new.printer _
    c.loop-part.invariant c.items_of-items.ensures c.level_wanted-wanted.ensures c.in_ok-write_part.ensures
    (subst (λ xs. Adds (words xs) c.write_part.new.printer.writer c.write_words-in-loop-part.new.writer) c.behind_first.ensures c.in_ok-rest-2.ensures.adds)
    refl refl (c.in_ok-rest-2.ensures.rest ∙ ap from_part c.behind_first.ensures) c.in_ok-number.ensures)

pub write_list-loop-element-init : goal.write_list-loop-element-init
write_list-loop-element-init t c = elements-init c.args.definition.now c.args.list c.args.elements.now c.args.unfinished c.args.printer.now

pub write_list-loop-element-preserved : goal.write_list-loop-element-preserved
write_list-loop-element-preserved t c =
    elements-next c.args.definition.now c.args.list c.args.elements.now c.loop-element.rest.now c.args.unfinished c.loop-element.number c.in_ok-number.number
    c.in-Some.element.now c.in-Some.behind.now c.args.printer.now c.loop-element.printer c.write_child.new.printer _
    c.loop-element.invariant c.in-Some.ensures.cases.0 c.in_ok-write_child.ensures c.in_ok-write_between.ensures refl refl c.in_ok-number.ensures

pub write_list-returns : goal.write_list-returns
write_list-returns t c =
    elements-end c.args.definition.now c.args.list c.args.elements.now c.loop-element.rest.now c.args.unfinished c.loop-element.number c.args.printer.now c.loop-element.printer _
    c.loop-element.invariant c.in_default.ensures.cases c.in_ok-write_ending.ensures refl refl

pub write_node-close-requires : goal.write_node-close-requires
write_node-close-requires t c =
    let o = c.in_ok-outer.ensures in
    let long = ap length o.spans ∙ length-append c.args.printer.now.spans.items _ in
    omega (arith, c.len-place.ensures, c.args.printer.now.spans.ok.0, long, c.in_ok-write_shape.ensures.grown)

pub write_node-returns : goal.write_node-returns
write_node-returns t c =
    node_printed c.args.definition.now c.args.tree.now c.len-place.result c.in_ok-outer.outer c.args.printer.now c.open.new.self c.write_shape.new.printer c.close.new.self
    (c.len-place.ensures ∙ c.args.printer.now.spans.ok.0) c.in_ok-outer.ensures c.in_ok-write_shape.ensures c.close.ensures

pub write_shape-write_operator-requires : goal.write_shape-write_operator-requires
write_shape-write_operator-requires t c =
    let e = op_height _ _ _ _ c.in-Op.is c.shape.ensures in
    let p = ap (λ ps. height (with_parts (operator 0) ps)) c.as_slice.ensures in
    (omega arith, c.requires)

pub write_shape-write_list-requires : goal.write_shape-write_list-requires
write_shape-write_list-requires t c =
    let e = list_height _ _ _ _ _ c.in-List.is c.shape.ensures in
    let p = ap (λ es. height (list_of 0 es false)) c.as_slice-in-List.ensures in
    let f = height-list_of 0 c.in-List.elements c.in-List.unfinished false in
    (omega arith, c.requires)
