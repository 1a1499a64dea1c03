use Rattle.std.proofs.Common.{ap, arith}
use Rattle.psg_deflines.specs.WrittenTrees.{operator}
use Rattle.psg_deflines.specs.TreeShapes.{with_parts, list_of, ending}
use Rattle.psg_defread.specs.WrittenLines.{tree_written}
use Rattle.psg_defread.proofs.WriteLaws.{mapped-all, parts-next, operator-written, list-written}
use Rattle.psg_defread.proofs.specimens.+tree.Goals as goal

pub tree_written-loop-i-preserved : goal.tree_written-loop-i-preserved
tree_written-loop-i-preserved t c =
    parts-next c.args.definition.now c.as_slice-parts.result.now c.loop-i.i c.index-parts-i.result c.in_ok-one-in-Op.one
    c.loop-i.written.items c.push.new.self.items c.loop-i-test.true c.index-parts-i.is c.in_ok-one-in-Op.ensures
    c.in_ok-push-in-Op.ensures.items c.loop-i.invariant

pub tree_written-returns-after-loop-i : goal.tree_written-returns-after-loop-i
tree_written-returns-after-loop-i t c =
    operator-written c.args.definition.now c.in-Op.op c.in_ok-name-in-Op.name c.in-Op.parts c.as_slice-parts.result.now
    c.loop-i.written.items c.loop-i.i c.args.specimen.now _ c.in-Op.is c.as_slice-parts.ensures
    c.in_ok-name-in-Op.ensures (omega (arith, c.loop-i-test.false)) c.loop-i.invariant
    (ap (with_parts (operator c.in_ok-name-in-Op.name)) c.of-parts.ensures)

pub tree_written-returns-in_ok-rest-in-List : goal.tree_written-returns-in_ok-rest-in-List
tree_written-returns-in_ok-rest-in-List t c =
    let elements = c.as_slice-elements.result.now in
    list-written c.args.definition.now c.in-List.list c.in-List.elements elements c.in-List.rest
    (ending c.in_ok-rest-in-List.rest) c.loop-i-2.written.items c.args.specimen.now _ c.in-List.is
    c.as_slice-elements.ensures c.in_ok-rest-in-List.ensures
    (mapped-all (tree_written c.args.definition.now) elements c.loop-i-2.i c.loop-i-2.written.items
    (omega (arith, c.loop-i-2-test.false)) c.loop-i-2.invariant)
    (ap (list_of (ending c.in_ok-rest-in-List.rest)) c.of-elements.ensures)
