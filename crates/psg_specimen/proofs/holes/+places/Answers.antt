use Rattle.std.proofs.Common.{arith}
use Rattle.psg_specimen.proofs.HoleLaws.{part_next, element_next, op_end, list_end}
use Rattle.psg_specimen.proofs.holes.+places.Goals as goal

pub add_places-loop-part-preserved : goal.add_places-loop-part-preserved
add_places-loop-part-preserved t c =
    part_next c.args.places.now.items c.loop-part.places.items c.add_part.new.places.items c.as_slice-part-items.result.now c.loop-part.part-index c.part-item.result
    c.loop-part-test.true c.part-item.is c.in_ok-add_part-in-Op.ensures c.loop-part.invariant

pub add_places-loop-element-preserved : goal.add_places-loop-element-preserved
add_places-loop-element-preserved t c =
    element_next c.args.places.now.items c.loop-element.places.items c.add_places.new.places.items c.as_slice-element-items.result.now c.loop-element.element-index c.element-item.result
    c.loop-element-test.true c.element-item.is c.in_ok-add_places-in-List.ensures c.loop-element.invariant

pub add_places-returns-after-loop-part : goal.add_places-returns-after-loop-part
add_places-returns-after-loop-part t c =
    op_end c.args.places.now.items c.loop-part.places.items c.in-Op.op c.in-Op.parts c.as_slice-part-items.result.now c.loop-part.part-index c.args.specimen.now
    c.in-Op.is c.as_slice-part-items.ensures (omega (arith, c.loop-part-test.false)) c.loop-part.invariant

pub add_places-returns-in_ok-add_rest-in-List : goal.add_places-returns-in_ok-add_rest-in-List
add_places-returns-in_ok-add_rest-in-List t c =
    list_end c.args.places.now.items c.loop-element.places.items c.add_rest.new.places.items c.in-List.list c.in-List.elements c.as_slice-element-items.result.now c.in-List.rest c.loop-element.element-index
    c.args.specimen.now c.in-List.is c.as_slice-element-items.ensures (omega (arith, c.loop-element-test.false)) c.loop-element.invariant c.in_ok-add_rest-in-List.ensures
