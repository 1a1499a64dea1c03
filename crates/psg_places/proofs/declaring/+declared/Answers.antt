use Rattle.std.proofs.Common.{◌∙◌, false, ap, arith, sym}
use Rattle.psg_grammar.specs.Fragments.{operator}
use Rattle.psg_tree.specs.Shapes.{height, with_parts, list_of, tree_of}
use Rattle.psg_tree.proofs.Heights.{part_in, element_in, op_height, list_height, height-list_of}
use Rattle.psg_places.specs.Listings.{elements_declared_places, fixed_places, part_declared_places}
use Rattle.psg_places.specs.Places.{declared_places}
use Rattle.psg_places.proofs.ListingLaws.{declared_all, declared_passed, element_declared, elements_declared_all}
use Rattle.psg_places.proofs.ListingLaws.{list_of_fixed, list_of_free, lists_false, lists_none, lists_true, no_declared, places_same}
use Rattle.psg_places.proofs.OpeningLaws.{at_list, at_op}
use Rattle.psg_places.proofs.declaring.+declared.Goals as goal

pub pass_fixed-returns-then-has_no_placeholder : goal.pass_fixed-returns-then-has_no_placeholder
pass_fixed-returns-then-has_no_placeholder t c =
    lists_true _ _ _ _ _ _ (sym c.has_no_placeholder.ensures ∙ c.if-has_no_placeholder.true) c.in_ok-pass_declared.ensures

pub pass_fixed-returns : goal.pass_fixed-returns
pass_fixed-returns t c =
    lists_false _ _ _ _ _ _ (sym c.has_no_placeholder.ensures ∙ c.if-has_no_placeholder.false)
    (lists_none c.args.keeping.keep.now c.args.listing.now)

pub pass_declared_part-returns-in_ok-pass_fixed-in-Sub : goal.pass_declared_part-returns-in_ok-pass_fixed-in-Sub
pass_declared_part-returns-in_ok-pass_fixed-in-Sub t c =
    let def = c.args.keeping.definition.now in
    let own = part_declared_places def c.args.path.now c.args.declares c.args.names c.args.children in
    places_same _ _ _ _ _
    (ap (λ path. fixed_places def path c.in-Sub.tree) (c.as_slice.ensures.value ∙ c.in_ok-inner-in-Sub.ensures) ∙ ap own (sym c.in-Sub.is))
    c.in_ok-pass_fixed-in-Sub.ensures

pub pass_declared_part-returns-in-Number : goal.pass_declared_part-returns-in-Number
pass_declared_part-returns-in-Number t c =
    let own = part_declared_places c.args.keeping.definition.now c.args.path.now c.args.declares c.args.names c.args.children in
    places_same _ _ _ _ _ (ap own (sym c.in-Number.is)) (lists_none c.args.keeping.keep.now c.args.listing.now)

pub pass_declared_part-returns-in-Text : goal.pass_declared_part-returns-in-Text
pass_declared_part-returns-in-Text t c =
    let own = part_declared_places c.args.keeping.definition.now c.args.path.now c.args.declares c.args.names c.args.children in
    places_same _ _ _ _ _ (ap own (sym c.in-Text.is)) (lists_none c.args.keeping.keep.now c.args.listing.now)

pub pass_declared_parts-pass_declared_part-requires : goal.pass_declared_parts-pass_declared_part-requires
pass_declared_parts-pass_declared_part-requires t c =
    let e = part_in (operator 0) c.args.parts.now c.loop-i.i c.index-parts-i.result c.loop-i-test.true c.index-parts-i.is in
    (omega arith, c.requires.known)

pub pass_declared_parts-loop-i-init : goal.pass_declared_parts-loop-i-init
pass_declared_parts-loop-i-init t c =
    no_declared c.args.keeping.definition.now c.args.keeping.keep.now c.args.path.now c.args.op c.args.listing.now

pub pass_declared_parts-loop-i-preserved : goal.pass_declared_parts-loop-i-preserved
pass_declared_parts-loop-i-preserved t c =
    declared_passed c.args.keeping.definition.now c.args.keeping.keep.now c.args.path.now c.args.op c.args.parts.now
    c.loop-i.i c.index-parts-i.result c.is_declared-declares.result c.loop-i.names c.loop-i.children
    c.names_in-own_names.result c.children_in-own_children.result c.in_ok-more_names.more_names
    c.in_ok-more_children.more_children c.args.listing.now c.loop-i.listing c.pass_declared_part.new.listing
    c.loop-i-test.true c.index-parts-i.is c.loop-i.invariant c.is_declared-declares.ensures
    c.in_ok-pass_declared_part.ensures c.names_in-own_names.ensures c.children_in-own_children.ensures
    c.in_ok-more_names.ensures.sum c.in_ok-more_children.ensures.sum

pub pass_declared_parts-returns : goal.pass_declared_parts-returns
pass_declared_parts-returns t c =
    declared_all c.args.keeping.definition.now c.args.keeping.keep.now c.args.path.now c.args.op c.args.parts.now
    c.loop-i.i c.loop-i.names c.loop-i.children c.args.listing.now c.loop-i.listing c.loop-i-test.false c.loop-i.invariant

pub pass_declared_elements-pass_fixed-requires : goal.pass_declared_elements-pass_fixed-requires
pass_declared_elements-pass_fixed-requires t c =
    let e = element_in 0 c.args.elements.now false c.loop-i.i c.index-elements-i.result c.loop-i-test.true c.index-elements-i.is in
    (omega arith, c.requires.known)

pub pass_declared_elements-loop-i-init : goal.pass_declared_elements-loop-i-init
pass_declared_elements-loop-i-init t c = lists_none c.args.keeping.keep.now c.args.listing.now

pub pass_declared_elements-loop-i-preserved : goal.pass_declared_elements-loop-i-preserved
pass_declared_elements-loop-i-preserved t c =
    element_declared c.args.keeping.definition.now c.args.keeping.keep.now c.args.path.now c.args.elements.now c.loop-i.i
    c.index-elements-i.result c.as_slice.result.now c.args.listing.now c.loop-i.listing c.pass_fixed.new.listing
    c.loop-i-test.true c.index-elements-i.is c.loop-i.invariant (c.as_slice.ensures.value ∙ c.in_ok-inner.ensures)
    c.in_ok-pass_fixed.ensures

pub pass_declared_elements-returns : goal.pass_declared_elements-returns
pass_declared_elements-returns t c =
    elements_declared_all c.args.keeping.definition.now c.args.keeping.keep.now c.args.path.now c.args.elements.now
    c.loop-i.i c.args.listing.now c.loop-i.listing c.loop-i-test.false c.loop-i.invariant

pub pass_declared-pass_declared_parts-requires : goal.pass_declared-pass_declared_parts-requires
pass_declared-pass_declared_parts-requires t c =
    let e = op_height _ _ _ _ c.in-Op.is c.shape.ensures in
    let p = ap (λ ps. height (with_parts (operator 0) ps)) c.as_slice.ensures in
    (omega arith, c.requires.known)

pub pass_declared-pass_declared_elements-requires : goal.pass_declared-pass_declared_elements-requires
pass_declared-pass_declared_elements-requires t c =
    let e = list_height _ _ _ _ _ c.in-List.is c.shape.ensures in
    let p = ap (λ es. height (list_of 0 es false)) c.as_slice-in-List.ensures in
    let f = height-list_of 0 c.in-List.elements c.in-List.unfinished false in
    (omega arith, c.requires.known)

pub pass_declared-returns-in_ok-pass_declared_parts-in-Op : goal.pass_declared-returns-in_ok-pass_declared_parts-in-Op
pass_declared-returns-in_ok-pass_declared_parts-in-Op t c =
    let def = c.args.keeping.definition.now in
    places_same _ _ _ _ _
    (ap (declared_places def c.args.path.now 0) (ap (with_parts (operator c.in-Op.op)) c.as_slice.ensures
    ∙ at_op _ c.in-Op.op c.in-Op.parts _ c.in-Op.is c.shape.ensures))
    c.in_ok-pass_declared_parts-in-Op.ensures

pub pass_declared-returns-then-goes_on : goal.pass_declared-returns-then-goes_on
pass_declared-returns-then-goes_on t c =
    list_of_free c.args.keeping.definition.now c.args.keeping.keep.now c.args.path.now c.in-List.list c.in-List.elements
    c.in-List.unfinished c.args.tree.now c.args.listing.now (sym c.goes_on.ensures ∙ c.if-goes_on.true)
    (at_list _ c.in-List.list c.in-List.elements c.in-List.unfinished _ c.in-List.is c.shape.ensures)

pub pass_declared-returns-in_ok-pass_declared_elements-in-List : goal.pass_declared-returns-in_ok-pass_declared_elements-in-List
pass_declared-returns-in_ok-pass_declared_elements-in-List t c =
    let def = c.args.keeping.definition.now in
    list_of_fixed def c.args.keeping.keep.now c.args.path.now c.in-List.list c.in-List.elements
    c.in-List.unfinished c.args.tree.now c.args.listing.now _ (sym c.goes_on.ensures ∙ c.if-goes_on.false)
    (at_list _ c.in-List.list c.in-List.elements c.in-List.unfinished _ c.in-List.is c.shape.ensures)
    (places_same _ _ _ _ _ (ap (elements_declared_places def c.args.path.now 0) c.as_slice-in-List.ensures)
    c.in_ok-pass_declared_elements-in-List.ensures)

pub pass_declared-returns-in-Hole : goal.pass_declared-returns-in-Hole
pass_declared-returns-in-Hole t c =
    let def = c.args.keeping.definition.now in
    places_same _ _ _ _ _
    (ap (λ s. declared_places def c.args.path.now 0 (tree_of s)) (sym c.in-Hole.is)
    ∙ ap (declared_places def c.args.path.now 0) c.shape.ensures)
    (lists_none c.args.keeping.keep.now c.args.listing.now)
