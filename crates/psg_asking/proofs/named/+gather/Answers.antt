use Rattle.std.proofs.Common.{◌∙◌, ◌++◌, false, ap, arith}
use Rattle.psg_grammar.specs.Fragments.{operator}
use Rattle.psg_tree.specs.Shapes.{height, with_parts, list_of}
use Rattle.psg_tree.proofs.Heights.{part_in, element_in, op_height, list_height, height-list_of}
use Rattle.psg_places.proofs.Gathered.{element_gathered, elements_gathered, list_names, operator_names, part_gathered, parts_gathered}
use Rattle.psg_asking.proofs.named.+gather.Goals as goal

pub gather-gather_parts-requires : goal.gather-gather_parts-requires
gather-gather_parts-requires t c =
    let e = op_height _ _ _ _ c.in-Op.is c.shape.ensures in
    let p = ap (λ ps. height (with_parts (operator 0) ps)) c.as_slice.ensures in
    (omega arith, tt)

pub gather-gather_elements-requires : goal.gather-gather_elements-requires
gather-gather_elements-requires t c =
    let e = list_height _ _ _ _ _ c.in-List.is c.shape.ensures in
    let p = ap (λ es. height (list_of 0 es false)) c.as_slice-in-List.ensures in
    let f = height-list_of 0 c.in-List.elements c.in-List.unfinished false in
    (omega arith, tt)

pub gather-returns-in_ok-gather_parts-in-Op : goal.gather-returns-in_ok-gather_parts-in-Op
gather-returns-in_ok-gather_parts-in-Op t c =
    c.in_ok-gather_parts-in-Op.ensures
    ∙ ap (λ ns. c.args.found.now.items ++ ns)
    (operator_names _ _ _ _ c.as_slice.result.now c.in-Op.is c.as_slice.ensures c.shape.ensures)

pub gather-returns-in_ok-gather_elements-in-List : goal.gather-returns-in_ok-gather_elements-in-List
gather-returns-in_ok-gather_elements-in-List t c =
    c.in_ok-gather_elements-in-List.ensures
    ∙ ap (λ ns. c.args.found.now.items ++ ns)
    (list_names _ _ _ _ _ c.as_slice-in-List.result.now c.in-List.is c.as_slice-in-List.ensures c.shape.ensures)

pub gather_elements-gather-requires : goal.gather_elements-gather-requires
gather_elements-gather-requires t c =
    let e = element_in 0 c.args.elements.now false c.loop-element.element-index c.element-item.result c.loop-element-test.true c.element-item.is in
    (omega arith, tt)

pub gather_elements-loop-element-preserved : goal.gather_elements-loop-element-preserved
gather_elements-loop-element-preserved t c =
    element_gathered c.args.elements.now c.loop-element.element-index c.element-item.result c.args.found.now.items
    c.loop-element.found.items c.gather.new.found.items c.loop-element-test.true c.element-item.is
    c.loop-element.invariant c.in_ok-gather.ensures

pub gather_elements-returns : goal.gather_elements-returns
gather_elements-returns t c =
    elements_gathered c.args.elements.now c.loop-element.element-index c.args.found.now.items c.loop-element.found.items
    c.loop-element-test.false c.loop-element.invariant

pub gather_parts-gather_part-requires : goal.gather_parts-gather_part-requires
gather_parts-gather_part-requires t c =
    let e = part_in (operator 0) c.args.parts.now c.loop-part.part-index c.part-item.result c.loop-part-test.true c.part-item.is in
    (omega arith, tt)

pub gather_parts-loop-part-preserved : goal.gather_parts-loop-part-preserved
gather_parts-loop-part-preserved t c =
    part_gathered c.args.parts.now c.loop-part.part-index c.part-item.result c.args.found.now.items
    c.loop-part.found.items c.gather_part.new.found.items c.loop-part-test.true c.part-item.is c.loop-part.invariant
    c.in_ok-gather_part.ensures

pub gather_parts-returns : goal.gather_parts-returns
gather_parts-returns t c =
    parts_gathered c.args.parts.now c.loop-part.part-index c.args.found.now.items c.loop-part.found.items
    c.loop-part-test.false c.loop-part.invariant
