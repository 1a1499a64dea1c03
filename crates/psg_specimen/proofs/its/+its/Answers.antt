use Rattle.std.proofs.Common.{◌+◌, ap, ◌∙◌, arith}
use Rattle.psg_specimen.specs.Its.{spot_in}
use Rattle.psg_specimen.proofs.ItLaws.{part_next, element_next, op_end, list_end}
use Rattle.psg_specimen.proofs.its.+its.Goals as goal

pub add_its-loop-part-preserved : goal.add_its-loop-part-preserved
add_its-loop-part-preserved t c = (
  ap (λ n. n + 1) c.loop-part.invariant.0,
  part_next c.args.definition.now c.is_region-region.result c.in_ok-spots-in-Op.spots.items c.args.its.now.items c.loop-part.its.items c.add_part.new.its.items c.as_slice-part-items.result.now c.loop-part.part-index
      c.spot_at-spot.result c.part-item.result c.loop-part-test.true c.part-item.is
      (c.spot_at-spot.ensures ∙ ap (λ l. spot_in l c.loop-part.place) c.as_slice.ensures.value ∙ ap (spot_in c.in_ok-spots-in-Op.spots.items) c.loop-part.invariant.0)
      c.in_ok-add_part-in-Op.ensures c.loop-part.invariant.1,
)

pub add_its-loop-element-preserved : goal.add_its-loop-element-preserved
add_its-loop-element-preserved t c =
    element_next c.args.definition.now c.args.inside c.args.its.now.items c.loop-element.its.items c.add_its.new.its.items c.as_slice-element-items.result.now c.loop-element.element-index c.element-item.result
    c.loop-element-test.true c.element-item.is c.in_ok-add_its-in-List.ensures c.loop-element.invariant

pub add_its-returns-after-loop-part : goal.add_its-returns-after-loop-part
add_its-returns-after-loop-part t c =
    op_end c.args.definition.now c.args.inside c.is_region-region.result c.in_ok-spots-in-Op.spots.items c.args.its.now.items c.loop-part.its.items c.in-Op.op c.in-Op.parts c.as_slice-part-items.result.now c.loop-part.part-index c.args.specimen.now
    c.in-Op.is c.as_slice-part-items.ensures (omega (arith, c.loop-part-test.false)) c.is_region-region.ensures c.in_ok-spots-in-Op.ensures c.loop-part.invariant.1

pub add_its-returns-after-loop-element : goal.add_its-returns-after-loop-element
add_its-returns-after-loop-element t c =
    list_end c.args.definition.now c.args.inside c.args.its.now.items c.loop-element.its.items c.in-List.list c.in-List.elements c.as_slice-element-items.result.now c.in-List.rest c.loop-element.element-index
    c.args.specimen.now c.in-List.is c.as_slice-element-items.ensures (omega (arith, c.loop-element-test.false)) c.loop-element.invariant
