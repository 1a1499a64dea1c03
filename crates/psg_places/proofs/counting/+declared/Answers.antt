use Rattle.std.proofs.Common.{◌∙◌, refl, false, ap, sym, arith}
use Rattle.std.proofs.lemmas.List.{take_all}
use Rattle.psg_grammar.specs.Fragments.{operator}
use Rattle.psg_tree.specs.Shapes.{height, with_parts, list_of}
use Rattle.psg_tree.proofs.Heights.{part_in, element_in, op_height, list_height, height-list_of}
use Rattle.psg_places.specs.Openings.{elements_declared}
use Rattle.psg_places.specs.Places.{declared_count}
use Rattle.psg_places.proofs.OpeningLaws.{at_list, counted_next, elements_all, elements_more, free_declared, list_declared}
use Rattle.psg_places.proofs.counting.+declared.Goals as goal

pub declared-declared_parts-requires : goal.declared-declared_parts-requires
declared-declared_parts-requires t c =
    let e = op_height _ _ _ _ c.in-Op.is c.shape.ensures in
    let p = ap (λ ps. height (with_parts (operator 0) ps)) c.as_slice.ensures in
    (omega arith, c.requires.known)

pub declared-declared_elements-requires : goal.declared-declared_elements-requires
declared-declared_elements-requires t c =
    let e = list_height _ _ _ _ _ c.in-List.is c.shape.ensures in
    let p = ap (λ es. height (list_of 0 es false)) c.as_slice-in-List.ensures in
    let f = height-list_of 0 c.in-List.elements c.in-List.unfinished false in
    (omega arith, c.requires.known)

pub declared-returns-then-goes_on : goal.declared-returns-then-goes_on
declared-returns-then-goes_on t c =
    let def = c.args.keeping.definition.now in
    free_declared def c.in-List.list c.in-List.elements c.in-List.unfinished (sym c.goes_on.ensures ∙ c.if-goes_on.true)
    ∙ ap (declared_count def)
    (at_list _ c.in-List.list c.in-List.elements c.in-List.unfinished _ c.in-List.is c.shape.ensures)

pub declared-returns-in_ok-own-in-List : goal.declared-returns-in_ok-own-in-List
declared-returns-in_ok-own-in-List t c =
    let def = c.args.keeping.definition.now in
    c.in_ok-own-in-List.ensures ∙ ap (elements_declared def) c.as_slice-in-List.ensures
    ∙ list_declared def c.in-List.list c.in-List.elements c.in-List.unfinished (sym c.goes_on.ensures ∙ c.if-goes_on.false)
    ∙ ap (declared_count def)
    (at_list _ c.in-List.list c.in-List.elements c.in-List.unfinished _ c.in-List.is c.shape.ensures)

pub declared_elements-declared_element-requires : goal.declared_elements-declared_element-requires
declared_elements-declared_element-requires t c =
    let e = element_in 0 c.args.elements.now false c.loop-i.i c.index-elements-i.result c.loop-i-test.true c.index-elements-i.is in
    (omega arith, c.requires.known)

pub declared_elements-loop-i-init : goal.declared_elements-loop-i-init
declared_elements-loop-i-init t c = omega arith

pub declared_elements-loop-i-preserved : goal.declared_elements-loop-i-preserved
declared_elements-loop-i-preserved t c =
    elements_more c.args.keeping.definition.now c.args.elements.now c.loop-i.i c.index-elements-i.result c.loop-i.total
    c.in_ok-own.own c.in_ok-next.next c.loop-i-test.true c.index-elements-i.is c.loop-i.invariant c.in_ok-own.ensures
    c.in_ok-next.ensures.sum

pub declared_elements-returns : goal.declared_elements-returns
declared_elements-returns t c =
    elements_all c.args.keeping.definition.now c.args.elements.now c.loop-i.i c.loop-i.total c.loop-i-test.false
    c.loop-i.invariant

pub declared_parts-declared_part-requires : goal.declared_parts-declared_part-requires
declared_parts-declared_part-requires t c =
    let e = part_in (operator 0) c.args.parts.now c.loop-i.i c.index-parts-i.result c.loop-i-test.true c.index-parts-i.is in
    (omega arith, c.requires.known)

pub declared_parts-loop-i-init : goal.declared_parts-loop-i-init
declared_parts-loop-i-init t c = refl

pub declared_parts-loop-i-preserved : goal.declared_parts-loop-i-preserved
declared_parts-loop-i-preserved t c =
    counted_next c.args.keeping.definition.now c.args.op c.args.parts.now c.loop-i.i c.index-parts-i.result
    c.is_declared-declares.result c.loop-i.total c.in_ok-own.own c.in_ok-next.next c.loop-i-test.true
    c.index-parts-i.is c.loop-i.invariant c.is_declared-declares.ensures c.in_ok-own.ensures c.in_ok-next.ensures.sum

pub declared_parts-returns : goal.declared_parts-returns
declared_parts-returns t c =
    c.loop-i.invariant
    ∙ ap (λ ps. declared_count c.args.keeping.definition.now (with_parts (operator c.args.op) ps))
    (take_all c.loop-i.i c.args.parts.now c.loop-i-test.false)
