use Rattle.std.specs.List.{list_any}
use Rattle.std.proofs.Common.{◌∙◌, ◌||◌, refl, false, map, ap, sym, arith}
use Rattle.std.proofs.lemmas.List.{take_all}
use Rattle.psg_grammar.specs.Fragments.{operator}
use Rattle.psg_tree.specs.Shapes.{height, with_parts, list_of}
use Rattle.psg_tree.proofs.Heights.{part_in, element_in, op_height, list_height, height-list_of}
use Rattle.psg_recover.specs.Lost.{is_lost, left_elements, left_part}
use Rattle.psg_recover.proofs.LostLaws.{hole_left, left_done, left_next, list_left_at, op_left, parts_next, push_none, push_one}
use Rattle.psg_recover.proofs.lost.+lost.Goals as goal

pub left_out-left_parts-requires : goal.left_out-left_parts-requires
left_out-left_parts-requires t c =
    let e = op_height _ _ _ _ c.in-Op.is c.shape.ensures in
    let p = ap (λ ps. height (with_parts (operator 0) ps)) c.as_slice.ensures in
    (omega arith, c.requires.known)

pub left_out-left_elements-requires : goal.left_out-left_elements-requires
left_out-left_elements-requires t c =
    let e = list_height _ _ _ _ _ c.in-List.is c.shape.ensures in
    let p = ap (λ es. height (list_of 0 es false)) c.as_slice-in-List.ensures in
    let f = height-list_of 0 c.in-List.elements c.in-List.unfinished false in
    (omega arith, c.requires.known)

pub left_parts-left_part-requires : goal.left_parts-left_part-requires
left_parts-left_part-requires t c =
    let e = part_in (operator 0) c.args.parts.now c.loop-i.i c.index-parts-i.result c.loop-i-test.true c.index-parts-i.is in
    (omega arith, c.requires.known)

pub left_parts-loop-i-preserved : goal.left_parts-loop-i-preserved
left_parts-loop-i-preserved t c =
    parts_next c.args.known.definition.now c.args.parts.now c.loop-i.i c.index-parts-i.result c.in_ok-own.own c.loop-i.made.items
    c.push.new.self.items c.loop-i-test.true c.index-parts-i.is c.loop-i.invariant c.in_ok-own.ensures c.in_ok-push.ensures.items

pub left_parts-returns : goal.left_parts-returns
left_parts-returns t c =
    c.loop-i.invariant
    ∙ ap (map (left_part c.args.known.definition.now)) (take_all c.loop-i.i c.args.parts.now c.loop-i-test.false)

pub left_elements-push_left-requires : goal.left_elements-push_left-requires
left_elements-push_left-requires t c =
    let e = element_in 0 c.args.elements.now false c.loop-i.i c.index-elements-i.result c.loop-i-test.true c.index-elements-i.is in
    (omega arith, c.requires.known)

pub left_elements-loop-i-preserved : goal.left_elements-loop-i-preserved
left_elements-loop-i-preserved t c =
    left_next c.args.known.definition.now c.args.elements.now c.loop-i.i c.index-elements-i.result c.loop-i.made.items
    c.push_left.new.made.items _ c.loop-i-test.true c.index-elements-i.is c.loop-i.invariant c.in_ok-push_left.ensures

pub left_elements-returns : goal.left_elements-returns
left_elements-returns t c =
    left_done c.args.known.definition.now c.args.elements.now c.loop-i.i c.loop-i.made.items _ c.loop-i-test.false c.loop-i.invariant

pub push_left-returns-then-is_lost : goal.push_left-returns-then-is_lost
push_left-returns-then-is_lost t c =
    push_none c.args.known.definition.now c.args.element.now c.args.made.now.items (sym c.is_lost.ensures ∙ c.if-is_lost.true)

pub push_left-returns : goal.push_left-returns
push_left-returns t c =
    push_one c.args.known.definition.now c.args.element.now c.in_ok-own.own c.args.made.now.items c.push.new.self.items
    (sym c.is_lost.ensures ∙ c.if-is_lost.false) c.in_ok-own.ensures c.in_ok-push.ensures.items

pub left_out-returns-in_ok-tree-in-Hole : goal.left_out-returns-in_ok-tree-in-Hole
left_out-returns-in_ok-tree-in-Hole t c =
    c.in_ok-tree-in-Hole.ensures ∙ hole_left c.args.known.definition.now _ c.in-Hole.phylum _ c.in-Hole.is c.shape.ensures

pub left_out-returns-in_ok-tree-in-Op : goal.left_out-returns-in_ok-tree-in-Op
left_out-returns-in_ok-tree-in-Op t c =
    let def = c.args.known.definition.now in
    c.in_ok-tree-in-Op.ensures
    ∙ op_left def _ c.in-Op.op c.in-Op.parts c.in_ok-made-in-Op.made.items _ c.in-Op.is c.shape.ensures
    (c.in_ok-made-in-Op.ensures ∙ ap (map (left_part def)) c.as_slice.ensures)

pub left_out-returns-in_ok-tree-in-List : goal.left_out-returns-in_ok-tree-in-List
left_out-returns-in_ok-tree-in-List t c =
    let def = c.args.known.definition.now in
    c.in_ok-tree-in-List.ensures
    ∙ list_left_at def _ c.in-List.list c.in-List.elements c.in_ok-left-in-List.left.items c.in-List.unfinished c.either-open.result _
    c.in-List.is c.shape.ensures (c.in_ok-left-in-List.ensures ∙ ap (left_elements def) c.as_slice-in-List.ensures)
    (c.either-open.ensures ∙ ap (λ b. c.in-List.unfinished || b) (c.has_lost-misses.ensures ∙ ap (list_any (is_lost def)) c.as_slice-in-List-2.ensures))
