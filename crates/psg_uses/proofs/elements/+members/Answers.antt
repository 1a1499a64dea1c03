use Rattle.std.proofs.Common.{◌∙◌, ◌++◌, false, true, cond, [], ap, ap₂, arith, sym, append-nil}
use Rattle.psg_grammar.specs.Fragments.{operator}
use Rattle.psg_tree.specs.Shapes.{height, with_parts, list_of, tree_of}
use Rattle.psg_tree.proofs.Heights.{part_in, element_in, op_height, list_height, height-list_of}
use Rattle.psg_places.specs.Places.{below}
use Rattle.psg_places.proofs.OpeningLaws.{at_list, at_op}
use Rattle.psg_uses.specs.Members.{all_members, fixed_members, list_members}
use Rattle.psg_uses.proofs.MemberLaws.{all_passed, any_operator, element_passed, elements_passed, members_of, no_list_of, none_of_list, none_of_operator, none_passed, part_passed, with_own}
use Rattle.psg_uses.proofs.elements.+members.Goals as goal

pub add_member-add_members-requires : goal.add_member-add_members-requires
add_member-add_members-requires t c = (omega arith, c.requires.known)

pub add_elements-add_member-requires : goal.add_elements-add_member-requires
add_elements-add_member-requires t c =
    let e = element_in 0 c.args.elements.now false c.loop-number.number c.index-elements-number.result c.loop-number-test.true c.index-elements-number.is in
    (omega arith, c.requires.known)

pub add_child-add_elements-requires : goal.add_child-add_elements-requires
add_child-add_elements-requires t c =
    let e = list_height _ _ _ _ _ c.in-List.is c.shape.ensures in
    let p = ap (λ es. height (list_of 0 es false)) c.as_slice-in-List.ensures in
    let f = height-list_of 0 c.in-List.elements c.in-List.unfinished false in
    (omega arith, c.requires.known)

pub add_parts-add_part-requires : goal.add_parts-add_part-requires
add_parts-add_part-requires t c =
    let e = part_in (operator 0) c.args.parts.now c.loop-place.place c.index-parts-place.result c.loop-place-test.true c.index-parts-place.is in
    (omega arith, c.requires.known)

pub add_members-add_parts-requires : goal.add_members-add_parts-requires
add_members-add_parts-requires t c =
    let e = op_height _ _ _ _ c.in-Op.is c.shape.ensures in
    let p = ap (λ ps. height (with_parts (operator 0) ps)) c.as_slice.ensures in
    (omega arith, c.requires.known)

pub add_member-returns-then-not-declares : goal.add_member-returns-then-not-declares
add_member-returns-then-not-declares t c =
    with_own c.args.known.definition.now c.args.list.now c.in_ok-own.own c.args.number c.in_ok-step.step c.args.element.now
    c.is_declaring-declares.result c.args.found.now.items c.push.new.self.items c.push.new.self.items c.in_ok-own.ensures
    c.in_ok-step.ensures.step c.is_declaring-declares.ensures c.in_ok-push.ensures.items
    (sym (append-nil c.push.new.self.items)
    ∙ ap (λ b. c.push.new.self.items ++ cond b (fixed_members c.args.known.definition.now (below c.args.list.now c.args.number) c.args.element.now) [])
    (sym c.if-not-declares.true))

pub add_member-returns : goal.add_member-returns
add_member-returns t c =
    with_own c.args.known.definition.now c.args.list.now c.in_ok-own.own c.args.number c.in_ok-step.step c.args.element.now
    c.is_declaring-declares.result c.args.found.now.items c.push.new.self.items c.add_members.new.found.items c.in_ok-own.ensures
    c.in_ok-step.ensures.step c.is_declaring-declares.ensures c.in_ok-push.ensures.items
    (c.in_ok-add_members.ensures
    ∙ ap (λ q. c.push.new.self.items ++ fixed_members c.args.known.definition.now q c.args.element.now) (c.as_slice.ensures.value ∙ c.in_ok-inner.ensures)
    ∙ ap (λ b. c.push.new.self.items ++ cond b (fixed_members c.args.known.definition.now (below c.args.list.now c.args.number) c.args.element.now) [])
    (sym c.if-not-declares.false))

pub add_elements-loop-number-init : goal.add_elements-loop-number-init
add_elements-loop-number-init t c = sym (append-nil c.args.found.now.items)

pub add_elements-loop-number-preserved : goal.add_elements-loop-number-preserved
add_elements-loop-number-preserved t c =
    element_passed c.args.known.definition.now c.args.list.now c.args.elements.now c.loop-number.number c.index-elements-number.result
    c.args.found.now.items c.loop-number.found.items c.add_member.new.found.items c.loop-number-test.true
    c.index-elements-number.is c.loop-number.invariant c.in_ok-add_member.ensures

pub add_elements-returns : goal.add_elements-returns
add_elements-returns t c =
    elements_passed c.args.known.definition.now c.args.list.now c.args.elements.now c.loop-number.number c.args.found.now.items
    c.loop-number.found.items c.loop-number-test.false c.loop-number.invariant

pub add_child-returns-then-free : goal.add_child-returns-then-free
add_child-returns-then-free t c =
    sym (append-nil c.args.found.now.items)
    ∙ ap (λ ms. c.args.found.now.items ++ ms)
    (no_list_of c.args.known.definition.now (below c.args.path.now c.args.child) 0 c.in-List.list c.in-List.elements c.in-List.unfinished
    (sym c.goes_on-free.ensures ∙ c.if-free.true)
    ∙ ap (list_members c.args.known.definition.now (below c.args.path.now c.args.child) 0)
    (at_list _ c.in-List.list c.in-List.elements c.in-List.unfinished _ c.in-List.is c.shape.ensures))

pub add_child-returns-in_ok-add_elements-in-List : goal.add_child-returns-in_ok-add_elements-in-List
add_child-returns-in_ok-add_elements-in-List t c =
    c.in_ok-add_elements-in-List.ensures
    ∙ ap₂ (λ q es. c.args.found.now.items ++ all_members c.args.known.definition.now q 0 es)
    (c.as_slice.ensures.value ∙ c.in_ok-inner-in-List.ensures) c.as_slice-in-List.ensures
    ∙ ap (λ ms. c.args.found.now.items ++ ms)
    (members_of c.args.known.definition.now (below c.args.path.now c.args.child) 0 c.in-List.list c.in-List.elements c.in-List.unfinished
    (sym c.goes_on-free.ensures ∙ c.if-free.false)
    ∙ ap (list_members c.args.known.definition.now (below c.args.path.now c.args.child) 0)
    (at_list _ c.in-List.list c.in-List.elements c.in-List.unfinished _ c.in-List.is c.shape.ensures))

pub add_child-returns-in-Op : goal.add_child-returns-in-Op
add_child-returns-in-Op t c =
    sym (append-nil c.args.found.now.items)
    ∙ ap (λ ms. c.args.found.now.items ++ ms)
    (none_of_operator c.args.known.definition.now (below c.args.path.now c.args.child) 0 c.in-Op.op c.in-Op.parts c.args.tree.now _ c.in-Op.is c.shape.ensures)

pub add_child-returns-in-Hole : goal.add_child-returns-in-Hole
add_child-returns-in-Hole t c =
    sym (append-nil c.args.found.now.items)
    ∙ ap (λ f. c.args.found.now.items ++ list_members c.args.known.definition.now (below c.args.path.now c.args.child) 0 f)
    (ap tree_of (sym c.in-Hole.is) ∙ c.shape.ensures)

pub add_parts-loop-place-init : goal.add_parts-loop-place-init
add_parts-loop-place-init t c = none_passed c.args.known.definition.now c.args.path.now c.args.found.now.items

pub add_parts-loop-place-preserved : goal.add_parts-loop-place-preserved
add_parts-loop-place-preserved t c =
    part_passed c.args.known.definition.now c.args.path.now c.args.parts.now c.loop-place.place c.index-parts-place.result
    c.loop-place.children c.children_in-own.result c.in_ok-more.more c.args.found.now.items c.loop-place.found.items
    c.add_part.new.found.items c.loop-place-test.true c.index-parts-place.is c.loop-place.invariant c.in_ok-add_part.ensures
    c.children_in-own.ensures c.in_ok-more.ensures.sum

pub add_parts-returns : goal.add_parts-returns
add_parts-returns t c =
    all_passed c.args.known.definition.now c.args.path.now c.args.parts.now c.loop-place.place c.loop-place.children
    c.args.found.now.items c.loop-place.found.items c.loop-place-test.false c.loop-place.invariant

pub add_members-returns-in_ok-add_parts-in-Op : goal.add_members-returns-in_ok-add_parts-in-Op
add_members-returns-in_ok-add_parts-in-Op t c =
    c.in_ok-add_parts-in-Op.ensures
    ∙ ap (λ ms. c.args.found.now.items ++ ms)
    (ap (λ ps. fixed_members c.args.known.definition.now c.args.path.now (with_parts (operator 0) ps)) c.as_slice.ensures
    ∙ any_operator c.args.known.definition.now c.args.path.now c.in-Op.op c.in-Op.parts
    ∙ ap (fixed_members c.args.known.definition.now c.args.path.now) (at_op _ c.in-Op.op c.in-Op.parts _ c.in-Op.is c.shape.ensures))

pub add_members-returns-in-List : goal.add_members-returns-in-List
add_members-returns-in-List t c =
    sym (append-nil c.args.found.now.items)
    ∙ ap (λ ms. c.args.found.now.items ++ ms)
    (none_of_list c.args.known.definition.now c.args.path.now c.in-List.list c.in-List.elements c.in-List.unfinished
    ∙ ap (fixed_members c.args.known.definition.now c.args.path.now)
    (at_list _ c.in-List.list c.in-List.elements c.in-List.unfinished _ c.in-List.is c.shape.ensures))
