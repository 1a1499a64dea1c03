use Rattle.std.proofs.Common.{◌∙◌, refl, false, cond, ap, arith}
use Rattle.std.proofs.lemmas.List.{take_all}
use Rattle.psg_grammar.specs.Fragments.{operator}
use Rattle.psg_tree.specs.Shapes.{height, with_parts, list_of}
use Rattle.psg_tree.proofs.Heights.{part_in, element_in, op_height, list_height, height-list_of}
use Rattle.psg_places.specs.Places.{content_count}
use Rattle.psg_places.proofs.OpeningLaws.{contained_next, list_contents, sizes_all, sizes_more}
use Rattle.psg_places.proofs.containing.+contained.Goals as goal

pub contained-parts_contained-requires : goal.contained-parts_contained-requires
contained-parts_contained-requires t c =
    let e = op_height _ _ _ _ c.in-Op.is c.shape.ensures in
    let p = ap (λ ps. height (with_parts (operator 0) ps)) c.as_slice.ensures in
    (omega arith, c.requires.known)

pub contained-list_contained-requires : goal.contained-list_contained-requires
contained-list_contained-requires t c =
    let e = list_height _ _ _ _ _ c.in-List.is c.shape.ensures in
    let p = ap (λ es. height (list_of 0 es false)) c.as_slice-in-List.ensures in
    let f = height-list_of 0 c.in-List.elements c.in-List.unfinished false in
    (omega arith, c.requires.known)

pub elements_contained-element_contained-requires : goal.elements_contained-element_contained-requires
elements_contained-element_contained-requires t c =
    let e = element_in 0 c.args.elements.now false c.loop-i.i c.index-elements-i.result c.loop-i-test.true c.index-elements-i.is in
    (omega arith, c.requires.known)

pub elements_contained-loop-i-init : goal.elements_contained-loop-i-init
elements_contained-loop-i-init t c = omega arith

pub elements_contained-loop-i-preserved : goal.elements_contained-loop-i-preserved
elements_contained-loop-i-preserved t c =
    sizes_more c.args.keeping.definition.now c.args.free c.args.elements.now c.loop-i.i c.index-elements-i.result c.loop-i.total
    c.in_ok-own.own c.in_ok-next.next c.loop-i-test.true c.index-elements-i.is c.loop-i.invariant c.in_ok-own.ensures
    c.in_ok-next.ensures.sum

pub elements_contained-returns : goal.elements_contained-returns
elements_contained-returns t c =
    sizes_all c.args.keeping.definition.now c.args.free c.args.elements.now c.loop-i.i c.loop-i.total c.loop-i-test.false
    c.loop-i.invariant

pub list_contained-returns : goal.list_contained-returns
list_contained-returns t c =
    list_contents c.args.keeping.definition.now c.goes_on-free.result c.args.list c.args.elements.now c.args.unfinished
    c.in_ok-own.own c.one_if-last.result c.in_ok-all.all c.goes_on-free.ensures c.in_ok-own.ensures
    (c.one_if-last.ensures.exact ∙ ap (λ b. cond b 1 0) c.is_end_place.ensures) c.in_ok-all.ensures.sum

pub parts_contained-part_contained-requires : goal.parts_contained-part_contained-requires
parts_contained-part_contained-requires t c =
    let e = part_in (operator 0) c.args.parts.now c.loop-i.i c.index-parts-i.result c.loop-i-test.true c.index-parts-i.is in
    (omega arith, c.requires.known)

pub parts_contained-loop-i-init : goal.parts_contained-loop-i-init
parts_contained-loop-i-init t c = refl

pub parts_contained-loop-i-preserved : goal.parts_contained-loop-i-preserved
parts_contained-loop-i-preserved t c =
    contained_next c.args.keeping.definition.now c.args.op c.args.parts.now c.loop-i.i c.index-parts-i.result
    c.is_declared-declares.result c.loop-i.total c.in_ok-own.own c.in_ok-next.next c.loop-i-test.true
    c.index-parts-i.is c.loop-i.invariant c.is_declared-declares.ensures c.in_ok-own.ensures c.in_ok-next.ensures.sum

pub parts_contained-returns : goal.parts_contained-returns
parts_contained-returns t c =
    c.loop-i.invariant
    ∙ ap (λ ps. content_count c.args.keeping.definition.now (with_parts (operator c.args.op) ps))
    (take_all c.loop-i.i c.args.parts.now c.loop-i-test.false)
