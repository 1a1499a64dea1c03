use Rattle.std.proofs.Common.{◌+◌, ◌++◌, ◌∷◌, [], Some, false, take, refl, ap, sym, subst, ◌∙◌, arith}
use Rattle.std.proofs.lemmas.List.{take_more}
use Rattle.psg_grammar.specs.Fragments.{operator}
use Rattle.psg_tree.specs.Shapes.{height, with_parts, list_of, tree_of}
use Rattle.psg_tree.proofs.Heights.{part_in, op_height, list_height, height-list_of}
use Rattle.psg_unparse.specs.Rows.{from_part}
use Rattle.psg_layout.specs.Arranged.{words_in}
use Rattle.psg_layout.specs.Walking.{ink_words, InksBy}
use Rattle.psg_layout.proofs.WayLaws.{AreParts, parts-init, parts-next, elements-init, elements-next, elements-end, IsFound, met_walks, node_met, node_copies, child_counted, child_walks, operator_walks, list_walks, sub_walks}
use Rattle.psg_layout.proofs.walk.+arrange.Goals as goal

pub write_operator-loop-part-init : goal.write_operator-loop-part-init
write_operator-loop-part-init t c =
    let p = c.args.plan.now in
    parts-init p c.args.mode.spaces c.args.mode.op c.items_of-items.result.now c.in_ok-words.words.0.now
    c.in_ok-words.words.1 c.args.arranger.now _ c.items_of-items.ensures c.in_ok-words.ensures.rest c.in_ok-words.ensures.number c.in_ok-words.ensures.ink refl refl refl

pub write_operator-write_part-requires : goal.write_operator-write_part-requires
write_operator-write_part-requires t c =
    let e = part_in (operator 0) c.args.parts.now c.loop-part.part-index c.part-item.result c.loop-part-test.true c.part-item.is in
    (omega arith, c.requires)

pub write_operator-loop-part-preserved : goal.write_operator-loop-part-preserved
write_operator-loop-part-preserved t c =
    let p = c.args.plan.now in
    subst (λ ps. AreParts p c.args.mode.spaces c.args.mode.op ps c.items_of-items.result.now c.in_ok-following.following.0.now
    c.in_ok-following.following.1 c.in_ok-child.child c.args.arranger.now
    (record { sheet = c.write_words-in-loop-part.new.sheet; path = c.write_part.new.arranger.path; nodes = c.write_part.new.arranger.nodes; place = c.write_part.new.arranger.place }))
    (sym (take_more c.args.parts.now c.loop-part.part-index c.part-item.result c.loop-part-test.true ∙ ap (λ x. take c.loop-part.part-index c.args.parts.now ++ x ∷ []) (sym c.part-item.is)))
    (parts-next p c.args.mode.spaces c.args.mode.op (take c.loop-part.part-index c.args.parts.now) c.items_of-items.result.now
    c.loop-part.rest.now c.in_ok-following.following.0.now c.loop-part.item c.in_ok-number.number c.in_ok-following.following.1 c.loop-part.child c.in_ok-child.child
    (record { item = c.loop-part.item; wanted = c.wanted_at-wanted.result; child = c.loop-part.child }) c.part-item.result c.args.arranger.now c.loop-part.arranger c.write_part.new.arranger _
    c.loop-part.invariant c.items_of-items.ensures refl c.wanted_at-wanted.ensures refl c.in_ok-write_part.ensures c.in_ok-number.ensures
    (subst (λ xs. InksBy p.rules.now (λ layout k. ink_words layout c.args.mode.spaces (Some c.args.mode.op) c.in_ok-number.number xs k) c.write_part.new.arranger.sheet c.write_words-in-loop-part.new.sheet)
    c.behind_first.ensures c.in_ok-following.ensures.ink)
    refl refl refl (c.in_ok-following.ensures.rest ∙ ap from_part c.behind_first.ensures)
    (c.in_ok-following.ensures.number ∙ ap (λ xs. c.in_ok-number.number + words_in xs) c.behind_first.ensures) c.in_ok-child.ensures)

pub write_list-loop-element-init : goal.write_list-loop-element-init
write_list-loop-element-init t c = λ place.
    let p = c.args.plan.now in
    elements-init p c.args.flat place c.args.list c.args.elements.now c.args.unfinished c.args.arranger.now

pub write_list-loop-element-preserved : goal.write_list-loop-element-preserved
write_list-loop-element-preserved t c = λ place.
    let p = c.args.plan.now in
    elements-next p c.args.flat place c.args.list c.args.elements.now c.loop-element.rest.now c.args.unfinished c.loop-element.number
    c.in_ok-number.number c.in-Some.element.now c.in-Some.behind.now c.args.arranger.now c.loop-element.arranger c.write_child.new.arranger _
    (c.loop-element.invariant place) c.in-Some.ensures.cases.0 c.in_ok-write_child.ensures c.in_ok-write_between.ensures refl refl refl c.in_ok-number.ensures

pub write_list-returns : goal.write_list-returns
write_list-returns t c = λ place.
    let p = c.args.plan.now in
    elements-end p c.args.flat place c.args.list c.args.elements.now c.loop-element.rest.now c.args.unfinished c.loop-element.number
    c.args.arranger.now c.loop-element.arranger _ (c.loop-element.invariant place) c.in_default.ensures.cases c.in_ok-write_ending.ensures refl refl refl

pub write_met-close-requires : goal.write_met-close-requires
write_met-close-requires t c =
    let long = c.in_ok-outer.ensures.long in
    omega (arith, c.len-listed.ensures, c.args.arranger.now.nodes.ok.0, long, c.in_ok-write_shape.ensures.grown)

pub write_met-returns : goal.write_met-returns
write_met-returns t c =
    met_walks c.args.plan.now c.args.flat c.args.tree.now c.len-listed.result c.args.arranger.now.place c.in_ok-outer.outer c.args.arranger.now c.open.new.self
    c.write_shape.new.arranger c.close.new.self (c.len-listed.ensures ∙ c.args.arranger.now.nodes.ok.0) refl c.in_ok-outer.ensures.walk c.in_ok-outer.ensures.long
    c.in_ok-write_shape.ensures c.close.ensures.walk c.close.ensures.long

pub write_node-returns-in_ok-copy-in-Some : goal.write_node-returns-in_ok-copy-in-Some
write_node-returns-in_ok-copy-in-Some t c =
    node_copies c.args.plan.now c.args.flat c.args.tree.now c.in-Some.own c.args.arranger.now
    c.copy.new.self
    (subst (IsFound c.args.plan.now c.args.flat c.args.tree.now c.args.arranger.now) c.in-Some.is c.in_ok-found.ensures)
    c.in_ok-copy-in-Some.ensures.walk c.copy.ensures.nodes

pub write_node-returns-in_ok-write_met-in-None : goal.write_node-returns-in_ok-write_met-in-None
write_node-returns-in_ok-write_met-in-None t c =
    node_met c.args.plan.now c.args.flat c.args.tree.now c.args.arranger.now c.write_met.new.arranger
    (subst (IsFound c.args.plan.now c.args.flat c.args.tree.now c.args.arranger.now) c.in-None.is c.in_ok-found.ensures) c.in_ok-write_met-in-None.ensures

pub write_shape-write_operator-requires : goal.write_shape-write_operator-requires
write_shape-write_operator-requires t c =
    let e = op_height _ _ _ _ c.in-Op.is c.shape.ensures in
    let p = ap (λ ps. height (with_parts (operator 0) ps)) c.as_slice.ensures in
    (omega arith, c.requires)

pub write_shape-write_list-requires : goal.write_shape-write_list-requires
write_shape-write_list-requires t c =
    let e = list_height _ _ _ _ _ c.in-List.is c.shape.ensures in
    let p = ap (λ es. height (list_of 0 es false)) c.as_slice-in-List.ensures in
    let f = height-list_of 0 c.in-List.elements c.in-List.unfinished false in
    (omega arith, c.requires)

pub write_list-write_child-requires : goal.write_list-write_child-requires
write_list-write_child-requires t c =
    let low = (c.loop-element.invariant 0).low in
    let e = ap (λ z. height (list_of 0 z false)) c.in-Some.ensures.cases.0 in
    (omega arith, c.requires)

pub write_child-returns-then-plan : goal.write_child-returns-then-plan
write_child-returns-then-plan t c =
    let p = c.args.plan.now in
    child_counted p c.args.flat c.args.number c.args.tree.now c.args.arranger.now c.write_node.new.arranger c.if-plan.true
    c.in_ok-write_node.ensures

pub write_child-returns : goal.write_child-returns
write_child-returns t c =
    let p = c.args.plan.now in
    child_walks p c.args.flat c.args.number c.args.tree.now c.args.arranger.now
    (record { sheet = c.args.arranger.now.sheet; path = c.push.new.self; nodes = c.args.arranger.now.nodes; place = c.args.arranger.now.place }) c.write_node-2.new.arranger
    (record { sheet = c.write_node-2.new.arranger.sheet; path = c.truncate.new.self; nodes = c.write_node-2.new.arranger.nodes; place = c.write_node-2.new.arranger.place })
    c.if-plan.false refl c.in_ok-push.ensures.items refl refl c.in_ok-write_node-2.ensures refl
    (c.truncate.ensures.items ∙ ap (λ k. take k c.write_node-2.new.arranger.path.items) (c.len-depth.ensures ∙ c.args.arranger.now.path.ok.0)) refl refl

pub write_shape-returns-in_ok-write_operator-in-Op : goal.write_shape-returns-in_ok-write_operator-in-Op
write_shape-returns-in_ok-write_operator-in-Op t c =
    let p = c.args.plan.now in
    operator_walks p c.args.flat c.args.place c.in-Op.op c.as_slice.result.now c.args.tree.now c.in_ok-spaces-in-Op.spaces
    c.args.arranger.now c.write_operator.new.arranger (ap (with_parts (operator c.in-Op.op)) c.as_slice.ensures ∙ sym (ap tree_of c.in-Op.is) ∙ c.shape.ensures)
    c.in_ok-spaces-in-Op.ensures c.in_ok-write_operator-in-Op.ensures

pub write_shape-returns-in_ok-write_list-in-List : goal.write_shape-returns-in_ok-write_list-in-List
write_shape-returns-in_ok-write_list-in-List t c =
    let p = c.args.plan.now in
    list_walks p c.args.flat c.args.place (list_of c.in-List.list c.as_slice-in-List.result.now c.in-List.unfinished) c.args.tree.now
    c.args.arranger.now c.write_list.new.arranger
    (ap (λ es. list_of c.in-List.list es c.in-List.unfinished) c.as_slice-in-List.ensures ∙ sym (ap tree_of c.in-List.is) ∙ c.shape.ensures)
    (c.in_ok-write_list-in-List.ensures c.args.place)

pub write_sub-returns : goal.write_sub-returns
write_sub-returns t c =
    let p = c.args.plan.now in
    sub_walks p c.args.mode.spaces c.args.mode.op c.args.next c.args.tree.now c.is_below-bracketed.result c.has_no_breaks-flat.result
    c.flat_at-plain.result c.args.arranger.now (record { sheet = c.open_bracket.new.sheet; path = c.args.arranger.now.path; nodes = c.args.arranger.now.nodes; place = c.args.arranger.now.place }) c.write_child.new.arranger
    (record { sheet = c.close_bracket.new.sheet; path = c.write_child.new.arranger.path; nodes = c.write_child.new.arranger.nodes; place = c.write_child.new.arranger.place }) c.ask_child.new.sheet
    c.flat_at-plain.ensures c.is_below-bracketed.ensures c.has_no_breaks-flat.ensures
    c.ask_child.ensures c.in_ok-open_bracket.ensures refl refl refl c.in_ok-write_child.ensures c.in_ok-close_bracket.ensures refl refl refl
