use Rattle.std.proofs.Common.{◌∙◌, ◌++◌, false, ap, arith, sym, append-nil}
use Rattle.psg_grammar.specs.Fragments.{operator}
use Rattle.psg_tree.specs.Shapes.{height, with_parts, list_of, tree_of}
use Rattle.psg_tree.proofs.Heights.{part_in, element_in, op_height, list_height, height-list_of}
use Rattle.psg_places.proofs.OpeningLaws.{at_list, at_op}
use Rattle.psg_links.specs.Names.{element_names, names_below, part_names}
use Rattle.psg_links.proofs.NamesLaws.{all_passed, element_passed, elements_passed, list_names, none_passed, part_passed}
use Rattle.psg_links.proofs.names.+names.Goals as goal

pub gather_parts-gather_part-requires : goal.gather_parts-gather_part-requires
gather_parts-gather_part-requires t c =
    let e = part_in (operator 0) c.args.parts.now c.loop-place.place c.index-parts-place.result c.loop-place-test.true c.index-parts-place.is in
    (omega arith, tt)

pub gather_elements-gather_child-requires : goal.gather_elements-gather_child-requires
gather_elements-gather_child-requires t c =
    let e = element_in 0 c.args.elements.now false c.loop-place.place c.index-elements-place.result c.loop-place-test.true c.index-elements-place.is in
    (omega arith, tt)

pub gather-gather_parts-requires : goal.gather-gather_parts-requires
gather-gather_parts-requires t c =
    let e = op_height _ _ _ _ c.in-Op.is c.shape.ensures in
    let p = ap (λ ps. height (with_parts (operator 0) ps)) c.as_slice.ensures in
    (omega arith, tt)

pub gather-gather_elements-requires : goal.gather-gather_elements-requires
gather-gather_elements-requires t c =
    let e = list_height _ _ _ _ _ c.in-List.is c.shape.ensures in
    let p = ap (λ es. height (list_of 0 es false)) c.as_slice-in-List.ensures in
    let f = height-list_of 0 c.in-List.elements c.in-List.unfinished false in
    (omega arith, tt)

pub gather_child-returns : goal.gather_child-returns
gather_child-returns t c =
    c.in_ok-gather.ensures
    ∙ ap (λ q. c.args.found.now.items ++ names_below c.args.definition.now q 0 c.args.tree.now) (c.as_slice.ensures.value ∙ c.in_ok-inner.ensures)

pub gather_part-returns-in_ok-gather_child-in-Sub : goal.gather_part-returns-in_ok-gather_child-in-Sub
gather_part-returns-in_ok-gather_child-in-Sub t c =
    c.in_ok-gather_child-in-Sub.ensures
    ∙ ap (λ p. c.args.found.now.items ++ part_names c.args.definition.now c.args.item c.args.path.now c.args.before c.args.children p) (sym c.in-Sub.is)

pub gather_part-returns-in_ok-add_name-in-Name : goal.gather_part-returns-in_ok-add_name-in-Name
gather_part-returns-in_ok-add_name-in-Name t c =
    c.in_ok-add_name-in-Name.ensures
    ∙ ap (λ p. c.args.found.now.items ++ part_names c.args.definition.now c.args.item c.args.path.now c.args.before c.args.children p) (sym c.in-Name.is)

pub gather_part-returns-in-Number : goal.gather_part-returns-in-Number
gather_part-returns-in-Number t c =
    sym (append-nil c.args.found.now.items)
    ∙ ap (λ p. c.args.found.now.items ++ part_names c.args.definition.now c.args.item c.args.path.now c.args.before c.args.children p) (sym c.in-Number.is)

pub gather_part-returns-in-Text : goal.gather_part-returns-in-Text
gather_part-returns-in-Text t c =
    sym (append-nil c.args.found.now.items)
    ∙ ap (λ p. c.args.found.now.items ++ part_names c.args.definition.now c.args.item c.args.path.now c.args.before c.args.children p) (sym c.in-Text.is)

pub gather-returns-in-Hole : goal.gather-returns-in-Hole
gather-returns-in-Hole t c =
    sym (append-nil c.args.found.now.items)
    ∙ ap (λ f. c.args.found.now.items ++ names_below c.args.definition.now c.args.path.now 0 f) (ap tree_of (sym c.in-Hole.is) ∙ c.shape.ensures)

pub gather_parts-loop-place-init : goal.gather_parts-loop-place-init
gather_parts-loop-place-init t c = none_passed c.args.definition.now c.args.path.now c.args.op c.args.found.now.items

pub gather_parts-loop-place-preserved : goal.gather_parts-loop-place-preserved
gather_parts-loop-place-preserved t c =
    part_passed c.args.definition.now c.args.path.now c.args.op c.args.parts.now c.loop-place.place c.index-parts-place.result
    c.item_of-item.result c.loop-place.count c.loop-place.children c.names_in-own_names.result
    c.children_in-own_children.result c.in_ok-more_names.more_names c.in_ok-more_children.more_children
    c.args.found.now.items c.loop-place.found.items c.gather_part.new.found.items c.loop-place-test.true
    c.index-parts-place.is c.loop-place.invariant c.item_of-item.ensures c.in_ok-gather_part.ensures
    c.names_in-own_names.ensures c.children_in-own_children.ensures c.in_ok-more_names.ensures.sum
    c.in_ok-more_children.ensures.sum

pub gather_parts-returns : goal.gather_parts-returns
gather_parts-returns t c =
    all_passed c.args.definition.now c.args.path.now c.args.op c.args.parts.now c.loop-place.place c.loop-place.count
    c.loop-place.children c.args.found.now.items c.loop-place.found.items c.loop-place-test.false c.loop-place.invariant

pub gather_elements-loop-place-init : goal.gather_elements-loop-place-init
gather_elements-loop-place-init t c = sym (append-nil c.args.found.now.items)

pub gather_elements-loop-place-preserved : goal.gather_elements-loop-place-preserved
gather_elements-loop-place-preserved t c =
    element_passed c.args.definition.now c.args.path.now c.args.elements.now c.loop-place.place c.index-elements-place.result
    c.args.found.now.items c.loop-place.found.items c.gather_child.new.found.items c.loop-place-test.true
    c.index-elements-place.is c.loop-place.invariant c.in_ok-gather_child.ensures

pub gather_elements-returns : goal.gather_elements-returns
gather_elements-returns t c =
    elements_passed c.args.definition.now c.args.path.now c.args.elements.now c.loop-place.place c.args.found.now.items
    c.loop-place.found.items c.loop-place-test.false c.loop-place.invariant

pub gather-returns-in_ok-gather_parts-in-Op : goal.gather-returns-in_ok-gather_parts-in-Op
gather-returns-in_ok-gather_parts-in-Op t c =
    c.in_ok-gather_parts-in-Op.ensures
    ∙ ap (λ f. c.args.found.now.items ++ names_below c.args.definition.now c.args.path.now 0 f)
    (ap (with_parts (operator c.in-Op.op)) c.as_slice.ensures ∙ at_op _ c.in-Op.op c.in-Op.parts _ c.in-Op.is c.shape.ensures)

pub gather-returns-in_ok-gather_elements-in-List : goal.gather-returns-in_ok-gather_elements-in-List
gather-returns-in_ok-gather_elements-in-List t c =
    c.in_ok-gather_elements-in-List.ensures
    ∙ ap (λ ns. c.args.found.now.items ++ ns) (ap (element_names c.args.definition.now c.args.path.now 0) c.as_slice-in-List.ensures
    ∙ sym (list_names c.args.definition.now c.args.path.now 0 c.in-List.list c.in-List.elements c.in-List.unfinished)
    ∙ ap (names_below c.args.definition.now c.args.path.now 0)
    (at_list _ c.in-List.list c.in-List.elements c.in-List.unfinished _ c.in-List.is c.shape.ensures))
