use Rattle.std.proofs.Common.{rules, ◌∷◌, ◌≤◌, length, not, false, refl, ap, sym, ◌∙◌, arith}
use Rattle.psg_terms.proofs.Lists.{drop_item}
use Rattle.psg_grammar.specs.declared.types.Item.TheVariants as items
use Rattle.psg_grammar.specs.Fragments.{operator}
use Rattle.psg_tree.specs.Shapes.{height, list_of, tree_of, with_parts}
use Rattle.psg_tree.proofs.Heights.{op_height, list_height, height-list_of}
use Rattle.psg_class.specs.Places.{solid}
use Rattle.psg_class.specs.Texts.{tokens_of}
use Rattle.psg_class.proofs.ClassFacts.{facts}
use Rattle.psg_ranges.proofs.Below.{operator_below, hole_below, list_of_below}
use Rattle.psg_ranges.proofs.Parts.{passing, mark_read, token_read, slot_read, child_read, no_child, otherwise, with_lead, bare_lead, bare_other}
use Rattle.psg_ranges.proofs.Nodes.{node_read, shape_read}
use Rattle.psg_ranges.proofs.Elements.{elements_init, elements_next, elements_end}
use Rattle.psg_ranges.proofs.Walks.{so_far_init, so_far_next, so_far_end, behind_low, left_low, sub_low}
use Rattle.psg_ranges.proofs.reading.+read.Goals as goal

pub read_node-returns : goal.read_node-returns
read_node-returns t c =
    node_read c.args.definition.now (facts c.args.definition.now c.requires) (tokens_of c.args.tokens.now) c.args.bracketed c.args.first c.args.tree.now c.in_ok-start.start c.in_brackets-outer.result.start
    c.args.reader.now _ c.read_shape.new.reader _ c.after_open-reader.ensures refl c.in_ok-start.ensures c.in_brackets-outer.ensures.start c.in_brackets-outer.ensures.end refl

pub read_shape-returns : goal.read_shape-returns
read_shape-returns t c =
    shape_read c.args.definition.now (tokens_of c.args.tokens.now) c.args.first c.args.tree.now c.in_ok-place.place c.in_ok-start.start _ _ c.args.reader.now c.open.new.self c.read_below.new.reader c.close.new.self
    c.in_ok-place.ensures c.in_ok-start.ensures c.close.ensures (search rules)

pub read_below-read_operator-requires : goal.read_below-read_operator-requires
read_below-read_operator-requires t c =
    let e = op_height _ _ _ _ c.in-Op.is c.shape.ensures in
    let p = ap (λ ps. height (with_parts (operator 0) ps)) c.as_slice.ensures in
    (omega arith, c.requires)

pub read_below-read_elements-requires : goal.read_below-read_elements-requires
read_below-read_elements-requires t c =
    let e = list_height _ _ _ _ _ c.in-List.is c.shape.ensures in
    let p = ap (λ es. height (list_of 0 es false)) c.as_slice-in-List.ensures in
    let f = height-list_of 0 c.in-List.elements c.in-List.unfinished false in
    (omega arith, c.requires)

pub read_below-returns-in_ok-start-in-Op : goal.read_below-returns-in_ok-start-in-Op
read_below-returns-in_ok-start-in-Op t c =
    operator_below c.args.definition.now (tokens_of c.args.tokens.now) c.args.first c.args.tree.now c.in_ok-start-in-Op.start c.args.reader.now c.read_operator.new.reader c.args.names.now.items
    c.read_operator.new.names.items c.in-Op.op c.as_slice.result.now c.items_of-items.result.now
    (ap (with_parts (operator c.in-Op.op)) c.as_slice.ensures ∙ ap tree_of (sym c.in-Op.is) ∙ c.shape.ensures) c.items_of-items.ensures c.in_ok-start-in-Op.ensures

pub read_below-returns-in_ok-read_elements-in-List : goal.read_below-returns-in_ok-read_elements-in-List
read_below-returns-in_ok-read_elements-in-List t c =
    list_of_below c.args.definition.now (tokens_of c.args.tokens.now) c.args.first c.args.tree.now c.args.reader.now.at c.args.reader.now c.read_elements.new.reader c.args.names.now.items
    c.args.names.now.items c.in-List.list c.as_slice-in-List.result.now c.in-List.unfinished
    (ap (λ es. list_of c.in-List.list es c.in-List.unfinished) c.as_slice-in-List.ensures ∙ ap tree_of (sym c.in-List.is) ∙ c.shape.ensures) refl c.in_ok-read_elements-in-List.ensures refl

pub read_below-returns-in-Hole : goal.read_below-returns-in-Hole
read_below-returns-in-Hole t c =
    hole_below c.args.definition.now (tokens_of c.args.tokens.now) c.args.first c.args.tree.now c.args.reader.now.at c.args.reader.now c.pass.new.self c.args.names.now.items c.args.names.now.items
    c.in-Hole.phylum (ap tree_of (sym c.in-Hole.is) ∙ c.shape.ensures) refl (passing c.args.tokens.now c.args.reader.now.at c.pass.new.self.at c.pass.ensures.at) c.pass.ensures.ranges refl

pub read_operator-read_parts-requires : goal.read_operator-read_parts-requires
read_operator-read_parts-requires t c =
    let e = behind_low c.args.parts.now in
    let f = ap (λ k. height (with_parts (operator 0) k)) c.behind_first-behind.ensures in
    (omega arith, c.requires)

pub read_operator-returns-in_ok-read_parts-in-Some : goal.read_operator-returns-in_ok-read_parts-in-Some
read_operator-returns-in_ok-read_parts-in-Some t c =
    with_lead c.args.definition.now (tokens_of c.args.tokens.now) c.args.items.now c.args.parts.now c.args.first c.in_ok-start-in-Some.start c.args.names.now.items c.read_parts.new.names.items
    (facts c.args.definition.now c.requires) c.args.reader.now c.read_child.new.reader c.read_parts.new.reader c.in-Some.kind c.behind_item-rest.result.now c.has_brackets-bracketed.result
    c.behind_first-behind.result.now
    (bare_lead c.without_marks-bare.result.now c.args.items.now c.in-Some.kind c.without_marks-bare.ensures.same (sym c.leading_kind.ensures ∙ c.in-Some.is)
    ∙ ap (λ r. items.Slot c.in-Some.kind ∷ solid r) (sym c.behind_item-rest.ensures))
    c.has_brackets-bracketed.ensures c.in_ok-start-in-Some.ensures c.behind_first-behind.ensures c.in_ok-read_parts-in-Some.ensures

pub read_operator-returns-in_ok-read_parts-in-None : goal.read_operator-returns-in_ok-read_parts-in-None
read_operator-returns-in_ok-read_parts-in-None t c =
    otherwise c.args.definition.now (tokens_of c.args.tokens.now) c.args.items.now c.args.parts.now c.args.first c.args.reader.now.at c.args.names.now.items c.read_parts-in-None.new.names.items
    c.args.reader.now c.read_parts-in-None.new.reader
    (bare_other c.without_marks-bare.result.now c.args.items.now c.without_marks-bare.ensures.same c.without_marks-bare.ensures.bare (sym c.leading_kind.ensures ∙ c.in-None.is)) refl
    c.in_ok-read_parts-in-None.ensures

pub read_parts-loop-item-init : goal.read_parts-loop-item-init
read_parts-loop-item-init t c = so_far_init c.args.definition.now (tokens_of c.args.tokens.now) c.args.items.now c.args.parts.now c.args.reader.now c.args.names.now.items

pub read_parts-read_item-requires : goal.read_parts-read_item-requires
read_parts-read_item-requires t c = let e = c.loop-item.invariant.low in (omega arith, c.requires)

pub read_parts-loop-item-preserved : goal.read_parts-loop-item-preserved
read_parts-loop-item-preserved t c =
    so_far_next c.args.definition.now (tokens_of c.args.tokens.now) c.args.items.now c.args.parts.now c.loop-item.rest.now c.in_ok-rest.rest.now c.loop-item.item-index c.item-item.result
    c.args.reader.now c.loop-item.reader c.read_item.new.reader c.args.names.now.items c.loop-item.names.items c.read_item.new.names.items c.loop-item.invariant
    (drop_item c.args.items.now c.loop-item.item-index c.item-item.result c.loop-item-test.true c.item-item.is) c.in_ok-rest.ensures.low c.in_ok-rest.ensures.reads

pub read_parts-returns : goal.read_parts-returns
read_parts-returns t c =
    let all : length c.args.items.now ≤ c.loop-item.item-index = omega (arith, c.loop-item-test.false) in
    so_far_end c.args.definition.now (tokens_of c.args.tokens.now) c.args.items.now c.args.parts.now c.loop-item.rest.now c.loop-item.item-index c.args.reader.now c.loop-item.reader
    c.args.names.now.items c.loop-item.names.items c.loop-item.invariant all

pub read_item-returns-then-is_mark-clause-reads : goal.read_item-returns-then-is_mark-clause-reads
read_item-returns-then-is_mark-clause-reads t c =
    mark_read c.args.definition.now c.args.tokens.now c.args.item.now c.args.parts.now c.args.parts.now c.args.reader.now c.args.reader.now c.args.names.now.items c.args.names.now.items
    (sym c.is_mark.ensures ∙ c.if-is_mark.true) refl refl refl refl

pub read_item-returns-in_ok-read_child-in-Some-clause-low : goal.read_item-returns-in_ok-read_child-in-Some-clause-low
read_item-returns-in_ok-read_child-in-Some-clause-low t c =
    let e = behind_low c.args.parts.now in
    let f = ap (λ k. height (with_parts (operator 0) k)) c.behind_first-behind.ensures in
    omega arith

pub read_item-returns-in_ok-read_child-in-Some-clause-reads : goal.read_item-returns-in_ok-read_child-in-Some-clause-reads
read_item-returns-in_ok-read_child-in-Some-clause-reads t c =
    slot_read c.args.definition.now c.args.tokens.now c.args.item.now c.args.parts.now c.behind_first-behind.result.now c.args.reader.now c.read_child.new.reader c.args.names.now.items
    c.args.names.now.items c.in-Some.kind c.has_brackets-bracketed.result c.args.reader.now.at _ (sym c.slot_kind.ensures ∙ c.in-Some.is) c.behind_first-behind.ensures
    c.has_brackets-bracketed.ensures refl c.in_ok-read_child-in-Some.ensures refl

pub read_item-returns-in_ok-note_name-in-None-clause-low : goal.read_item-returns-in_ok-note_name-in-None-clause-low
read_item-returns-in_ok-note_name-in-None-clause-low t c =
    let e = left_low c.args.item.now c.args.parts.now in
    let f = ap (λ k. height (with_parts (operator 0) k)) c.left_of-left.ensures in
    omega arith

pub read_item-returns-in_ok-note_name-in-None-clause-reads : goal.read_item-returns-in_ok-note_name-in-None-clause-reads
read_item-returns-in_ok-note_name-in-None-clause-reads t c =
    token_read c.args.definition.now c.args.tokens.now c.args.item.now c.args.parts.now c.left_of-left.result.now c.args.reader.now c.pass.new.self c.args.names.now.items c.note_name.new.names.items
    (sym c.is_mark.ensures ∙ c.if-is_mark.false) (sym c.slot_kind.ensures ∙ c.in-None.is) c.left_of-left.ensures c.pass.ensures.at c.pass.ensures.ranges c.in_ok-note_name-in-None.ensures

pub read_child-read_node-requires : goal.read_child-read_node-requires
read_child-read_node-requires t c = let e = sub_low c.args.parts.now c.in-Some.tree.now c.in-Some.ensures in (omega arith, c.requires)

pub read_child-returns-in_ok-start-in-Some : goal.read_child-returns-in_ok-start-in-Some
read_child-returns-in_ok-start-in-Some t c =
    child_read c.args.definition.now (tokens_of c.args.tokens.now) c.args.bracketed c.args.first c.in_ok-start-in-Some.start c.in-Some.tree.now c.args.parts.now c.args.reader.now c.read_node.new.reader
    c.in-Some.ensures c.in_ok-start-in-Some.ensures

pub read_child-returns-in-None : goal.read_child-returns-in-None
read_child-returns-in-None t c =
    no_child c.args.definition.now (tokens_of c.args.tokens.now) c.args.bracketed c.args.first c.args.first c.args.parts.now c.args.reader.now c.args.reader.now c.in-None.ensures

pub read_elements-loop-element-init : goal.read_elements-loop-element-init
read_elements-loop-element-init t c = elements_init c.args.definition.now (tokens_of c.args.tokens.now) c.args.list c.args.elements.now c.args.unfinished c.args.reader.now

pub read_elements-loop-element-preserved : goal.read_elements-loop-element-preserved
read_elements-loop-element-preserved t c =
    elements_next c.args.definition.now (tokens_of c.args.tokens.now) c.args.list c.args.elements.now c.loop-element.rest.now c.in-Some.behind.now c.in-Some.element.now c.args.unfinished
    c.element_brackets-bracketed.result c.loop-element.reader.at _ c.args.reader.now c.loop-element.reader c.read_node.new.reader c.pass_if.new.self c.loop-element.invariant c.in-Some.ensures.cases.0 refl
    c.element_brackets-bracketed.ensures c.in_ok-read_node.ensures (λ h. c.pass_if.ensures.kept (c.goes_on-more.ensures ∙ ap not h))
    (λ h. passing c.args.tokens.now c.read_node.new.reader.at c.pass_if.new.self.at (c.pass_if.ensures.passed (c.goes_on-more.ensures ∙ ap not h))) c.pass_if.ensures.ranges

pub read_elements-returns : goal.read_elements-returns
read_elements-returns t c =
    elements_end c.args.definition.now (tokens_of c.args.tokens.now) c.args.list c.args.elements.now c.loop-element.rest.now c.args.unfinished c.args.reader.now c.loop-element.reader c.pass_end.new.self
    c.loop-element.invariant c.in_default.ensures.cases c.pass_end.ensures.kept
    (λ h. passing c.args.tokens.now c.loop-element.reader.at c.pass_end.new.self.at (c.pass_end.ensures.passed h)) c.pass_end.ensures.ranges
