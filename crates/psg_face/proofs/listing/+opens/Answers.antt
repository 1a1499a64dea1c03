use Rattle.std.proofs.Common.{◌∙◌, false, length, ap, arith}
use Rattle.psg_grammar.specs.Fragments.{operator}
use Rattle.psg_tree.specs.Shapes.{height, with_parts, list_of}
use Rattle.psg_tree.proofs.Heights.{part_in, element_in, op_height, list_height, height-list_of}
use Rattle.psg_face.specs.Opens.{elements_opens}
use Rattle.psg_face.proofs.OpenLaws.{added_none, added_same, no_parts, part_passed, all_parts, element_passed, all_elements}
use Rattle.psg_face.proofs.OpenLaws.{list_passed}
use Rattle.psg_face.proofs.listing.+opens.Goals as goal

pub push_parts-push_part-requires : goal.push_parts-push_part-requires
push_parts-push_part-requires t c =
    let e = part_in (operator 0) c.args.parts.now c.loop-i.i c.index-parts-i.result c.loop-i-test.true c.index-parts-i.is in
    (omega arith, tt)

pub push_parts-loop-i-init : goal.push_parts-loop-i-init
push_parts-loop-i-init t c = no_parts c.args.path.now c.args.op c.args.found.now.items

pub push_parts-loop-i-preserved : goal.push_parts-loop-i-preserved
push_parts-loop-i-preserved t c =
    part_passed c.args.path.now c.args.op c.args.parts.now c.loop-i.i c.index-parts-i.result c.loop-i.children
    c.children_in-own_children.result c.in_ok-more_children.more_children c.args.found.now.items c.loop-i.found.items
    c.push_part.new.found.items c.loop-i-test.true c.index-parts-i.is c.loop-i.invariant c.in_ok-push_part.ensures
    c.children_in-own_children.ensures c.in_ok-more_children.ensures

pub push_parts-returns : goal.push_parts-returns
push_parts-returns t c =
    all_parts c.args.path.now c.args.op c.args.parts.now c.loop-i.i c.loop-i.children c.args.found.now.items
    c.loop-i.found.items c.loop-i-test.false c.loop-i.invariant

pub push_elements-push_opens-requires : goal.push_elements-push_opens-requires
push_elements-push_opens-requires t c =
    let e = element_in 0 c.args.elements.now false c.loop-i.i c.index-elements-i.result c.loop-i-test.true c.index-elements-i.is in
    (omega arith, tt)

pub push_elements-loop-i-init : goal.push_elements-loop-i-init
push_elements-loop-i-init t c = added_none c.args.found.now.items

pub push_elements-loop-i-preserved : goal.push_elements-loop-i-preserved
push_elements-loop-i-preserved t c =
    element_passed c.args.path.now c.args.elements.now c.loop-i.i c.index-elements-i.result c.steps.result.now
    c.args.found.now.items c.loop-i.found.items c.push_opens.new.found.items c.loop-i-test.true c.index-elements-i.is
    c.loop-i.invariant (c.steps.ensures ∙ c.in_ok-inner.ensures) c.in_ok-push_opens.ensures

pub push_elements-returns : goal.push_elements-returns
push_elements-returns t c =
    all_elements c.args.path.now c.args.elements.now c.loop-i.i c.args.found.now.items c.loop-i.found.items
    c.loop-i-test.false c.loop-i.invariant

pub push_opens-push_parts-requires : goal.push_opens-push_parts-requires
push_opens-push_parts-requires t c =
    let e = op_height _ _ _ _ c.in-Op.is c.shape.ensures in
    let p = ap (λ ps. height (with_parts (operator 0) ps)) c.as_slice.ensures in
    (omega arith, tt)

pub push_opens-push_elements-requires : goal.push_opens-push_elements-requires
push_opens-push_elements-requires t c =
    let e = list_height _ _ _ _ _ c.in-List.is c.shape.ensures in
    let p = ap (λ es. height (list_of 0 es false)) c.as_slice-row.ensures in
    let f = height-list_of 0 c.in-List.elements c.in-List.unfinished false in
    (omega arith, tt)

pub push_opens-returns-in_ok-push_dots-in-List : goal.push_opens-returns-in_ok-push_dots-in-List
push_opens-returns-in_ok-push_dots-in-List t c =
    list_passed c.args.path.now _ _ c.in-List.elements c.in-List.unfinished _ (length c.as_slice-row.result.now)
    c.args.found.now.items c.push_elements.new.found.items _ c.in-List.is c.shape.ensures
    (ap length c.as_slice-row.ensures)
    (added_same _ _ _ _ (ap (elements_opens c.args.path.now 0) c.as_slice-row.ensures) c.in_ok-push_elements-in-List.ensures)
    c.in_ok-push_dots-in-List.ensures
