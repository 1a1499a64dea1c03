use Rattle.std.proofs.Common.{string_bytes, false, ap, arith}
use Rattle.psg_grammar.specs.Fragments.{operator}
use Rattle.psg_tree.specs.Shapes.{height, with_parts, list_of}
use Rattle.psg_tree.proofs.Heights.{part_in, element_in, op_height, list_height, height-list_of}
use Rattle.psg_tree.proofs.Texts.{part_written, parts_written, elements_written, list_text, on_written}
use Rattle.psg_tree.proofs.text.+write.Goals as goal

pub write_list-write_tree-requires : goal.write_list-write_tree-requires
write_list-write_tree-requires t c =
    let e = element_in 0 c.args.elements.now false c.loop-i.i c.index-elements-i.result c.loop-i-test.true c.index-elements-i.is in
    (omega arith, tt)

pub write_list-returns : goal.write_list-returns
write_list-returns t c =
    on_written c.push_str-2.result (string_bytes c.push_str-2.new.self) _ _ _ c.push_str-2.ensures.bytes
    (elements_written c.args.definition.now c.loop-i.i c.args.elements.now c.args.unfinished (string_bytes c.args.out.now) (string_bytes c.loop-i.out) (string_bytes c.push_str-2.new.self) c.bracket_of.result.now c.loop-i-test.false c.loop-i.invariant c.bracket_of.ensures)

pub write_operator-write_part-requires : goal.write_operator-write_part-requires
write_operator-write_part-requires t c =
    let e = part_in (operator 0) c.args.parts.now c.loop-i.i c.index-parts-i.result c.loop-i-test.true c.index-parts-i.is in
    (omega arith, tt)

pub write_operator-loop-i-preserved : goal.write_operator-loop-i-preserved
write_operator-loop-i-preserved t c =
    part_written c.args.definition.now c.args.op c.loop-i.i c.args.parts.now c.index-parts-i.result (string_bytes c.args.out.now) (string_bytes c.loop-i.out) (string_bytes c.push_str-in-loop-i.new.self) (string_bytes c.write_part.new.out)
    c.mark_before.result.now c.loop-i-test.true c.index-parts-i.is c.loop-i.invariant c.mark_before.ensures c.in_ok-push_str-2.ensures.bytes c.in_ok-write_part.ensures

pub write_operator-returns : goal.write_operator-returns
write_operator-returns t c =
    on_written c.push_str-2.result (string_bytes c.push_str-2.new.self) _ _ _ c.push_str-2.ensures.bytes
    (parts_written c.args.definition.now c.args.op c.loop-i.i c.args.parts.now (string_bytes c.args.out.now) (string_bytes c.loop-i.out) (string_bytes c.push_str-2.new.self) c.bracket_behind.result.now c.loop-i-test.false c.loop-i.invariant c.bracket_behind.ensures)

pub write_tree-write_operator-requires : goal.write_tree-write_operator-requires
write_tree-write_operator-requires t c =
    let e = op_height _ _ _ _ c.in-Op.is c.shape.ensures in
    let p = ap (λ ps. height (with_parts (operator 0) ps)) c.as_slice.ensures in
    (omega arith, tt)

pub write_tree-write_list-requires : goal.write_tree-write_list-requires
write_tree-write_list-requires t c =
    let e = list_height _ _ _ _ _ c.in-List.is c.shape.ensures in
    let p = ap (λ es. height (list_of 0 es false)) c.as_slice-in-List.ensures in
    let f = height-list_of 0 c.in-List.elements c.in-List.unfinished false in
    (omega arith, tt)

pub write_tree-returns-in-List : goal.write_tree-returns-in-List
write_tree-returns-in-List t c =
    let e = list_text c.args.definition.now _ _ _ _ _ c.in-List.is c.shape.ensures in
    rw (← e) (rw (← c.as_slice-in-List.ensures) c.write_list.ensures)
