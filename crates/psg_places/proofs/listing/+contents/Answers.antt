use Rattle.std.proofs.Common.{◌∙◌, ◌∷◌, [], false, ap, arith, sym}
use Rattle.psg_grammar.specs.Fragments.{operator}
use Rattle.psg_tree.specs.Shapes.{height, with_parts, list_of, tree_of}
use Rattle.psg_tree.proofs.Heights.{part_in, element_in, op_height, list_height, height-list_of}
use Rattle.psg_places.specs.declared.place.Place.TheVariants.{Name, Node}
use Rattle.psg_places.specs.Listings.{both_places, elements_places, own_child_places, part_content_places}
use Rattle.psg_places.specs.Places.{content_places, declared_places}
use Rattle.psg_places.proofs.ListingLaws.{after_false, after_true, content_all, content_passed, element_passed, elements_all}
use Rattle.psg_places.proofs.ListingLaws.{list_with_end, lists_both, lists_false, lists_none, lists_true, name_unless, no_content, places_same}
use Rattle.psg_places.proofs.OpeningLaws.{at_list, at_op}
use Rattle.psg_places.proofs.listing.+contents.Goals as goal

pub pass_both-returns : goal.pass_both-returns
pass_both-returns t c =
    let def = c.args.keeping.definition.now in
    lists_both c.args.keeping.keep.now (declared_places def c.args.path.now 0 c.args.tree.now)
    (content_places def c.args.path.now 0 c.args.tree.now) c.args.listing.now _ _ c.in_ok-pass_declared.ensures
    c.in_ok-pass_contents.ensures

pub pass_node-returns : goal.pass_node-returns
pass_node-returns t c =
    lists_both c.args.keeping.keep.now (Node c.args.path.now ∷ [])
    (both_places c.args.keeping.definition.now c.args.path.now c.args.tree.now) c.args.listing.now _ _
    c.in_ok-pass.ensures c.in_ok-pass_both.ensures

pub pass_child-returns-then-has_no_placeholder : goal.pass_child-returns-then-has_no_placeholder
pass_child-returns-then-has_no_placeholder t c =
    lists_true _ _ _ _ _ _ (sym c.has_no_placeholder.ensures ∙ c.if-has_no_placeholder.true) c.in_ok-pass_contents.ensures

pub pass_child-returns-then-is_hole : goal.pass_child-returns-then-is_hole
pass_child-returns-then-is_hole t c =
    lists_false _ _ _ _ _ _ (sym c.has_no_placeholder.ensures ∙ c.if-has_no_placeholder.false)
    (lists_true _ _ _ _ _ _ (sym c.is_hole.ensures ∙ c.if-is_hole.true)
    (lists_none c.args.keeping.keep.now c.args.listing.now))

pub pass_child-returns : goal.pass_child-returns
pass_child-returns t c =
    lists_false _ _ _ _ _ _ (sym c.has_no_placeholder.ensures ∙ c.if-has_no_placeholder.false)
    (lists_false _ _ _ _ _ _ (sym c.is_hole.ensures ∙ c.if-is_hole.false) c.in_ok-pass_node.ensures)

pub pass_free_element-returns-then-has_no_placeholder : goal.pass_free_element-returns-then-has_no_placeholder
pass_free_element-returns-then-has_no_placeholder t c =
    after_true _ _ _ _ _ _ _ _ (sym c.has_no_placeholder.ensures ∙ c.if-has_no_placeholder.true) c.in_ok-pass.ensures
    c.in_ok-pass_both.ensures

pub pass_free_element-returns : goal.pass_free_element-returns
pass_free_element-returns t c =
    after_false _ _ _ _ _ _ _ _ (sym c.has_no_placeholder.ensures ∙ c.if-has_no_placeholder.false) c.in_ok-pass.ensures
    c.in_ok-pass_child.ensures

pub pass_element-returns-then-free : goal.pass_element-returns-then-free
pass_element-returns-then-free t c =
    lists_true _ _ _ _ _ _ c.if-free.true c.in_ok-pass_free_element.ensures

pub pass_element-returns : goal.pass_element-returns
pass_element-returns t c =
    lists_false _ _ _ _ _ _ c.if-free.false c.in_ok-pass_child.ensures

pub pass_part-returns-in_ok-pass_child-in-Sub : goal.pass_part-returns-in_ok-pass_child-in-Sub
pass_part-returns-in_ok-pass_child-in-Sub t c =
    let def = c.args.keeping.definition.now in
    let own = part_content_places def c.args.path.now c.args.declares c.args.names c.args.children in
    places_same _ _ _ _ _
    (ap (λ path. own_child_places def path c.in-Sub.tree) (c.as_slice.ensures.value ∙ c.in_ok-inner-in-Sub.ensures) ∙ ap own (sym c.in-Sub.is))
    c.in_ok-pass_child-in-Sub.ensures

pub pass_part-returns-in_ok-pass_name-in-Name : goal.pass_part-returns-in_ok-pass_name-in-Name
pass_part-returns-in_ok-pass_name-in-Name t c =
    let def = c.args.keeping.definition.now in
    let own = part_content_places def c.args.path.now c.args.declares c.args.names c.args.children in
    places_same _ _ _ _ _ (ap own (sym c.in-Name.is))
    (name_unless c.args.keeping.keep.now c.args.declares (Name c.args.path.now c.args.names) c.args.listing.now _
    c.in_ok-pass_name-in-Name.ensures)

pub pass_part-returns-in-Number : goal.pass_part-returns-in-Number
pass_part-returns-in-Number t c =
    let def = c.args.keeping.definition.now in
    let own = part_content_places def c.args.path.now c.args.declares c.args.names c.args.children in
    places_same _ _ _ _ _ (ap own (sym c.in-Number.is)) (lists_none c.args.keeping.keep.now c.args.listing.now)

pub pass_part-returns-in-Text : goal.pass_part-returns-in-Text
pass_part-returns-in-Text t c =
    let def = c.args.keeping.definition.now in
    let own = part_content_places def c.args.path.now c.args.declares c.args.names c.args.children in
    places_same _ _ _ _ _ (ap own (sym c.in-Text.is)) (lists_none c.args.keeping.keep.now c.args.listing.now)

pub pass_parts-pass_part-requires : goal.pass_parts-pass_part-requires
pass_parts-pass_part-requires t c =
    let e = part_in (operator 0) c.args.parts.now c.loop-i.i c.index-parts-i.result c.loop-i-test.true c.index-parts-i.is in
    (omega arith, c.requires.known)

pub pass_parts-loop-i-init : goal.pass_parts-loop-i-init
pass_parts-loop-i-init t c =
    no_content c.args.keeping.definition.now c.args.keeping.keep.now c.args.path.now c.args.op c.args.listing.now

pub pass_parts-loop-i-preserved : goal.pass_parts-loop-i-preserved
pass_parts-loop-i-preserved t c =
    content_passed c.args.keeping.definition.now c.args.keeping.keep.now c.args.path.now c.args.op c.args.parts.now
    c.loop-i.i c.index-parts-i.result c.is_declared-declares.result c.loop-i.names c.loop-i.children
    c.names_in-own_names.result c.children_in-own_children.result c.in_ok-more_names.more_names
    c.in_ok-more_children.more_children c.args.listing.now c.loop-i.listing c.pass_part.new.listing
    c.loop-i-test.true c.index-parts-i.is c.loop-i.invariant c.is_declared-declares.ensures
    c.in_ok-pass_part.ensures c.names_in-own_names.ensures c.children_in-own_children.ensures
    c.in_ok-more_names.ensures.sum c.in_ok-more_children.ensures.sum

pub pass_parts-returns : goal.pass_parts-returns
pass_parts-returns t c =
    content_all c.args.keeping.definition.now c.args.keeping.keep.now c.args.path.now c.args.op c.args.parts.now
    c.loop-i.i c.loop-i.names c.loop-i.children c.args.listing.now c.loop-i.listing c.loop-i-test.false c.loop-i.invariant

pub pass_elements-pass_element-requires : goal.pass_elements-pass_element-requires
pass_elements-pass_element-requires t c =
    let e = element_in 0 c.args.elements.now false c.loop-i.i c.index-elements-i.result c.loop-i-test.true c.index-elements-i.is in
    (omega arith, c.requires.known)

pub pass_elements-loop-i-init : goal.pass_elements-loop-i-init
pass_elements-loop-i-init t c = lists_none c.args.keeping.keep.now c.args.listing.now

pub pass_elements-loop-i-preserved : goal.pass_elements-loop-i-preserved
pass_elements-loop-i-preserved t c =
    element_passed c.args.keeping.definition.now c.args.keeping.keep.now c.args.path.now c.args.free c.args.elements.now
    c.loop-i.i c.index-elements-i.result c.as_slice.result.now c.args.listing.now c.loop-i.listing
    c.pass_element.new.listing c.loop-i-test.true c.index-elements-i.is c.loop-i.invariant
    (c.as_slice.ensures.value ∙ c.in_ok-inner.ensures) c.in_ok-pass_element.ensures

pub pass_elements-returns : goal.pass_elements-returns
pass_elements-returns t c =
    elements_all c.args.keeping.definition.now c.args.keeping.keep.now c.args.path.now c.args.free c.args.elements.now
    c.loop-i.i c.args.listing.now c.loop-i.listing c.loop-i-test.false c.loop-i.invariant

pub pass_contents-pass_parts-requires : goal.pass_contents-pass_parts-requires
pass_contents-pass_parts-requires t c =
    let e = op_height _ _ _ _ c.in-Op.is c.shape.ensures in
    let p = ap (λ ps. height (with_parts (operator 0) ps)) c.as_slice.ensures in
    (omega arith, c.requires.known)

pub pass_contents-pass_elements-requires : goal.pass_contents-pass_elements-requires
pass_contents-pass_elements-requires t c =
    let e = list_height _ _ _ _ _ c.in-List.is c.shape.ensures in
    let p = ap (λ es. height (list_of 0 es false)) c.as_slice-in-List.ensures in
    let f = height-list_of 0 c.in-List.elements c.in-List.unfinished false in
    (omega arith, c.requires.known)

pub pass_contents-returns-in_ok-pass_parts-in-Op : goal.pass_contents-returns-in_ok-pass_parts-in-Op
pass_contents-returns-in_ok-pass_parts-in-Op t c =
    let def = c.args.keeping.definition.now in
    places_same _ _ _ _ _
    (ap (content_places def c.args.path.now 0) (ap (with_parts (operator c.in-Op.op)) c.as_slice.ensures
    ∙ at_op _ c.in-Op.op c.in-Op.parts _ c.in-Op.is c.shape.ensures))
    c.in_ok-pass_parts-in-Op.ensures

pub pass_contents-returns-in_ok-pass_end-in-List : goal.pass_contents-returns-in_ok-pass_end-in-List
pass_contents-returns-in_ok-pass_end-in-List t c =
    let def = c.args.keeping.definition.now in
    list_with_end def c.args.keeping.keep.now c.args.path.now c.goes_on-free.result c.in-List.list c.in-List.elements
    c.in-List.unfinished c.args.tree.now c.args.listing.now _ _ c.goes_on-free.ensures
    (at_list _ c.in-List.list c.in-List.elements c.in-List.unfinished _ c.in-List.is c.shape.ensures)
    (places_same _ _ _ _ _ (ap (elements_places def c.goes_on-free.result c.args.path.now 0) c.as_slice-in-List.ensures)
    c.in_ok-pass_elements-in-List.ensures)
    c.in_ok-pass_end-in-List.ensures

pub pass_contents-returns-in-Hole : goal.pass_contents-returns-in-Hole
pass_contents-returns-in-Hole t c =
    let def = c.args.keeping.definition.now in
    places_same _ _ _ _ _
    (ap (λ s. content_places def c.args.path.now 0 (tree_of s)) (sym c.in-Hole.is)
    ∙ ap (content_places def c.args.path.now 0) c.shape.ensures)
    (lists_none c.args.keeping.keep.now c.args.listing.now)
