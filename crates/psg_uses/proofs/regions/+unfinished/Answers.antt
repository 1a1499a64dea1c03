use Rattle.std.proofs.Common.{◌∙◌, ◌||◌, ◌&&◌, not, false, true, ap, ap₂, refl, arith, sym}
use Rattle.std.specs.List.{list_any}
use Rattle.psg_grammar.specs.Fragments.{operator}
use Rattle.psg_grammar.specs.Regions.{unfinished_inside}
use Rattle.psg_tree.specs.Shapes.{height, with_parts, list_of}
use Rattle.psg_tree.proofs.Heights.{part_in, element_in, op_height, list_height, height-list_of}
use Rattle.psg_places.proofs.OpeningLaws.{at_list, at_op}
use Rattle.psg_uses.specs.ByParts.{unfinished_below, unfinished_part}
use Rattle.psg_uses.proofs.OpenLaws.{any_here, any_next, any_none, list_open, op_open}
use Rattle.psg_uses.proofs.regions.+unfinished.Goals as goal

pub some_element-is_unfinished_below-so-requires : goal.some_element-is_unfinished_below-so-requires
some_element-is_unfinished_below-so-requires t c =
    let e = element_in 0 c.args.elements.now false c.loop-place.place c.index-elements-place.result c.loop-place-test.true c.index-elements-place.is in
    (omega arith, c.requires.known)

pub some_part-is_unfinished_part-so-requires : goal.some_part-is_unfinished_part-so-requires
some_part-is_unfinished_part-so-requires t c =
    let e = part_in (operator 0) c.args.parts.now c.loop-place.place c.index-parts-place.result c.loop-place-test.true c.index-parts-place.is in
    (omega arith, c.requires.known)

pub is_unfinished-some_element-inner-requires : goal.is_unfinished-some_element-inner-requires
is_unfinished-some_element-inner-requires t c =
    let e = list_height _ _ _ _ _ c.in-List.is c.shape.ensures in
    let p = ap (λ es. height (list_of 0 es false)) c.as_slice.ensures in
    let f = height-list_of 0 c.in-List.elements c.in-List.unfinished false in
    (omega arith, c.requires.known)

pub is_unfinished-some_part-requires : goal.is_unfinished-some_part-requires
is_unfinished-some_part-requires t c =
    let e = op_height _ _ _ _ c.in-Op.is c.shape.ensures in
    let p = ap (λ ps. height (with_parts (operator 0) ps)) c.as_slice-in-Op.ensures in
    (omega arith, c.requires.known)

pub is_unfinished_below-returns-then-scope : goal.is_unfinished_below-returns-then-scope
is_unfinished_below-returns-then-scope t c =
    sym (ap (λ b. not b && unfinished_inside c.args.known.definition.now c.args.space c.args.tree.now) (sym c.is_scope-scope.ensures ∙ c.if-scope.true))

pub is_unfinished_below-returns : goal.is_unfinished_below-returns
is_unfinished_below-returns t c =
    c.is_unfinished.ensures
    ∙ sym (ap (λ b. not b && unfinished_inside c.args.known.definition.now c.args.space c.args.tree.now) (sym c.is_scope-scope.ensures ∙ c.if-scope.false))

pub some_element-loop-place-init : goal.some_element-loop-place-init
some_element-loop-place-init t c = refl

pub some_element-loop-place-preserved : goal.some_element-loop-place-preserved
some_element-loop-place-preserved t c =
    any_next (unfinished_below c.args.known.definition.now c.args.space) c.args.elements.now c.loop-place.place
    c.index-elements-place.result c.is_unfinished_below-so.result c.loop-place-test.true c.index-elements-place.is
    c.is_unfinished_below-so.ensures c.if-so.false c.loop-place.invariant

pub some_element-returns-then-so : goal.some_element-returns-then-so
some_element-returns-then-so t c =
    any_here (unfinished_below c.args.known.definition.now c.args.space) c.args.elements.now c.loop-place.place
    c.index-elements-place.result c.is_unfinished_below-so.result c.loop-place-test.true c.index-elements-place.is
    c.is_unfinished_below-so.ensures c.if-so.true c.loop-place.invariant

pub some_element-returns : goal.some_element-returns
some_element-returns t c =
    any_none (unfinished_below c.args.known.definition.now c.args.space) c.args.elements.now c.loop-place.place
    c.loop-place-test.false c.loop-place.invariant

pub some_part-loop-place-init : goal.some_part-loop-place-init
some_part-loop-place-init t c = refl

pub some_part-loop-place-preserved : goal.some_part-loop-place-preserved
some_part-loop-place-preserved t c =
    any_next (unfinished_part c.args.known.definition.now c.args.space) c.args.parts.now c.loop-place.place
    c.index-parts-place.result c.is_unfinished_part-so.result c.loop-place-test.true c.index-parts-place.is
    c.is_unfinished_part-so.ensures c.if-so.false c.loop-place.invariant

pub some_part-returns-then-so : goal.some_part-returns-then-so
some_part-returns-then-so t c =
    any_here (unfinished_part c.args.known.definition.now c.args.space) c.args.parts.now c.loop-place.place
    c.index-parts-place.result c.is_unfinished_part-so.result c.loop-place-test.true c.index-parts-place.is
    c.is_unfinished_part-so.ensures c.if-so.true c.loop-place.invariant

pub some_part-returns : goal.some_part-returns
some_part-returns t c =
    any_none (unfinished_part c.args.known.definition.now c.args.space) c.args.parts.now c.loop-place.place
    c.loop-place-test.false c.loop-place.invariant

pub is_unfinished-returns-in-List : goal.is_unfinished-returns-in-List
is_unfinished-returns-in-List t c =
    let def = c.args.known.definition.now in
    let s = c.args.space in
    c.either.ensures
    ∙ ap₂ (λ a b. a || b)
    (c.some_element-inner.ensures ∙ ap (λ es. list_any (unfinished_below def s) es) c.as_slice.ensures) c.ends_open-own.ensures
    ∙ list_open def s c.in-List.list c.in-List.elements c.in-List.unfinished
    ∙ ap (unfinished_inside def s) (at_list _ c.in-List.list c.in-List.elements c.in-List.unfinished _ c.in-List.is c.shape.ensures)

pub is_unfinished-returns-in-Op : goal.is_unfinished-returns-in-Op
is_unfinished-returns-in-Op t c =
    let def = c.args.known.definition.now in
    let s = c.args.space in
    c.some_part.ensures ∙ ap (λ ps. list_any (unfinished_part def s) ps) c.as_slice-in-Op.ensures
    ∙ op_open def s c.in-Op.op c.in-Op.parts
    ∙ ap (unfinished_inside def s) (at_op _ c.in-Op.op c.in-Op.parts _ c.in-Op.is c.shape.ensures)
